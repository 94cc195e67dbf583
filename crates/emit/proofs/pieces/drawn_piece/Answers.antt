-- By the object of the key and its section.
use Rattle.emit.proofs.Common.{HaveNumbers, IsDrawnPiece, ObjectData, Some, ap, piece_in, refl, section_byte, slice_get}
use Rattle.emit.proofs.Common.{subst, sym, ◌∙◌, ◌≡◌}
use Rattle.emit.proofs.Numbering.{numbers_differ}
use Rattle.emit.proofs.OfRows.{drawn_none, drawn_some, drawn_unnamed, named_self, no_object, not_stayed, numbered_at}
use Rattle.emit.proofs.OfRows.{numbered_is, numbered_none, placed_is, there_is}
use Rattle.emit.proofs.pieces.drawn_piece.Goals as goal

pub returns-in-None-section_near : goal.returns-in-None-section_near
returns-in-None-section_near c l stays w same sources new at =
    let p = c.args.project.now in
    let r = c.args.piece.now in
    let there = there_is p r.section.object.0 c.in-Some.object.now c.in-Some.ensures in
    subst (λ pr. IsDrawnPiece pr l.layout w c.zeros-in-None-section_near.result) (sym same)
    (drawn_none p l.layout (piece_in p r) c.args.start w at r.section.object.0 there.object c.in-InTable.number
    c.inputs-inputs.ensures.distinct there.at refl c.in-InTable.is _ c.zeros-in-None-section_near.ensures
    (numbered_none there.object c.in-InTable.number c.in-Some.object.now there.is
    c.in-None-section_near.ensures.absent))

pub returns-in-None : goal.returns-in-None
returns-in-None c l stays w same sources new at =
    let p = c.args.project.now in
    let r = c.args.piece.now in
    subst (λ pr. IsDrawnPiece pr l.layout w c.zeros-in-None.result) (sym same)
    (drawn_unnamed p l.layout (piece_in p r) c.args.start w at r.section.object.0 c.in-InTable.number
    c.objects_are_named.ensures.named (no_object p r.section.object.0 c.in-None.ensures) refl c.in-InTable.is _
    c.zeros-in-None.ensures)

pub returns-in-Some-section_near : goal.returns-in-Some-section_near
returns-in-Some-section_near c l stays w same sources new at =
    let p = c.args.project.now in
    let r = c.args.piece.now in
    let key = r.section.object.0 in
    let ob = c.in-Some.object.now in
    let number = c.in-InTable.number in
    let index = c.in-Some-section_near.index.0 in
    let there = there_is p key ob c.in-Some.ensures in
    let o = there.object in
    let one = numbered_at ob number index c.in-Some-section_near.ensures.found in
    let x = one.section in
    let here : slice_get o.object.sections index ≡ Some x =
    ap (λ (b : ObjectData). slice_get b.sections index) there.is ∙ one.at in
    let differ : HaveNumbers o.object =
    subst HaveNumbers (sym there.is)
    (numbers_differ ob c.sections-sections.result.now c.sections-sections.ensures.value
    c.sections-sections.ensures.ascending) in
    let found = numbered_is o number index x differ here one.is in
    let y = c.section_piece.result in
    let is = c.section_piece.ensures l stays o x w sources (ap (λ pr. slice_get pr.objects key) same ∙ there.at)
    there.is here (not_stayed r number x stays c.in-InTable.is one.is new)
    (placed_is p l.layout (piece_in p r) c.args.start w at key o number c.inputs-inputs.ensures.distinct there.at
    refl c.in-InTable.is x one.is there.name) at.start_is
    (at.sized o number x c.in-InTable.is (named_self p key o c.inputs-inputs.ensures.distinct there.at) found) in
    subst (λ pr. IsDrawnPiece pr l.layout w y) (sym same)
    (drawn_some p l.layout (piece_in p r) c.args.start w at key o number c.inputs-inputs.ensures.distinct there.at
    refl c.in-InTable.is x y found is.start is.size
    (λ i. is.bytes i ∙ ap (λ pr. section_byte pr l.layout o c.args.start i x) same) is.filled is.unstayed)
