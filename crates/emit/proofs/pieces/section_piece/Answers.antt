-- By what the section holds.
use Rattle.emit.proofs.Common.{HasRelocationsOfProfile, IsSectionOfProfile, ObjectData, Section, Some, ap, length, refl}
use Rattle.emit.proofs.Common.{slice_get, sym, ◌∙◌, ◌≡◌}
use Rattle.emit.proofs.OfSections.{all_at, bytes_are, full_piece, nobits_piece}
use Rattle.emit.proofs.pieces.section_piece.Goals as goal

pub returns-in-Nobits : goal.returns-in-Nobits
returns-in-Nobits c l stays o x w sources there same here new placed at sized =
    let ob = c.args.object.now in
    let i = c.args.index.0 in
    let own : slice_get ob.sections i ≡ Some x = ap (λ (b : ObjectData). slice_get b.sections i) (sym same) ∙ here in
    let n = length ob.symbols in
    nobits_piece l o x c.args.size c.args.start n _
    (all_at IsSectionOfProfile ob.sections i x c.sections-sections.ensures.limits own)
    (all_at (HasRelocationsOfProfile n) ob.sections i x c.relocations-relocations.ensures.limits own)
    (sym (ap (λ (z : Section). z.kind) (c.section_at-section.ensures x own)) ∙ c.in-Nobits.is)
    c.zeros.ensures

pub returns-in-Some : goal.returns-in-Some
returns-in-Some c l stays o x w sources there same here new placed at sized =
    let ob = c.args.object.now in
    let i = c.args.index.0 in
    let own : slice_get ob.sections i ≡ Some x = ap (λ (b : ObjectData). slice_get b.sections i) (sym same) ∙ here in
    let n = length ob.symbols in
    let is = c.section_at-section.ensures x own in
    full_piece l o x c.args.size c.args.start n _
    (all_at IsSectionOfProfile ob.sections i x c.sections-sections.ensures.limits own)
    (all_at (HasRelocationsOfProfile n) ob.sections i x c.relocations-relocations.ensures.limits own)
    w (λ e. c.in_default.not-Nobits (ap (λ (z : Section). z.kind) is ∙ e))
    sized placed at refl refl
    (bytes_are ob i x c.section_bytes-bytes.result.now own c.section_bytes-bytes.ensures)
    (c.in-Some.ensures.some l stays o x sources.indexed_layout sources.runs there here c.args.place there new) refl

pub returns-in-None : goal.returns-in-None
returns-in-None c l stays o x w sources there same here new placed at sized =
    absurd (c.in-None.ensures.none l stays o x sources.indexed_layout sources.runs there here)
