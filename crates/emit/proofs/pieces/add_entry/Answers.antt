-- By what the previous link says.
use Rattle.emit.proofs.Common.{Bool, IsDrawnPiece, IsRowPiece, SectionRef, is_some, on_ok_weaker, subst, sym, ◌∙◌}
use Rattle.emit.proofs.OfRows.{row_drawn, row_kept}
use Rattle.emit.proofs.pieces.add_entry.Goals as goal

pub returns-then-has_stayed : goal.returns-then-has_stayed
returns-then-has_stayed g c =
    let p = c.args.sources.now.project.now in
    let stays : SectionRef → Bool = λ k. is_some (g.E.PreviousLinkInfo.range c.args.sources.now.previous.now k) in
    on_ok_weaker c.add_stayed.result
    (λ h l w whole same sources at stand.
    let kept = h whole stand in (
      kept.0,
      subst (λ pr. IsRowPiece pr l.layout stays w kept.0) (sym same)
          (row_kept p l.layout stays c.args.piece.now c.args.start w kept.0 at
          (sym c.has_stayed.ensures ∙ c.if-has_stayed.true) kept.1),
      kept.2,
    ))
    c.add_stayed.ensures

pub returns : goal.returns
returns g c =
    let p = c.args.sources.now.project.now in
    let stays : SectionRef → Bool = λ k. is_some (g.E.PreviousLinkInfo.range c.args.sources.now.previous.now k) in
    let new = sym c.has_stayed.ensures ∙ c.if-has_stayed.false in
    let y = c.drawn_piece-drawn.result in
    on_ok_weaker c.add_drawn.result
    (λ h l w whole same sources at stand.
    let drawn = c.drawn_piece-drawn.ensures l stays w same sources new at in (
      y,
      subst (λ pr. IsRowPiece pr l.layout stays w y) (sym same)
          (row_drawn p l.layout stays c.args.piece.now c.args.start w y at new
          (subst (λ pr. IsDrawnPiece pr l.layout w y) same drawn)),
      h whole stand drawn.unstayed,
    ))
    c.add_drawn.ensures
