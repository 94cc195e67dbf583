-- One that is empty is not in the list.
use Rattle.emit.proofs.Common.{Bool, ImagePiece, IsRowPiece, SectionRef, [], is_some, refl, stand_empty, subst, sym}
use Rattle.emit.proofs.OfRows.{row_empty}
use Rattle.emit.proofs.pieces.add_unless_empty.Goals as goal

pub returns-then-piece-eq0 : goal.returns-then-piece-eq0
returns-then-piece-eq0 g c =
    λ l w whole same sources at stand.
    let p = c.args.sources.now.project.now in
    let stays : SectionRef → Bool = λ k. is_some (g.E.PreviousLinkInfo.range c.args.sources.now.previous.now k) in
    let r = c.args.piece.now in
    let y : ImagePiece = record {
      start = c.args.start;
      size = 0;
      bytes = record { ref_ptr = (0, 0); now = [] };
      fields = record { ref_ptr = (0, 0); now = [] };
      stays = stays r.section;
    } in (
      y,
      subst (λ pr. IsRowPiece pr l.layout stays w y) (sym same)
          (row_empty p l.layout stays r c.args.start w y at c.if-piece-eq0.true refl refl refl refl refl),
      stand_empty whole c.args.pieces.now.items y stand refl,
    )
