use Rattle.emit.proofs.Common.{provided}
use Rattle.emit.proofs.Sizes.{pieces_sized}
use Rattle.emit.proofs.law.pieces_are_sized.Goals as goal

pub returns : goal.returns
returns c =
    λ p s names numbers e.
    pieces_sized p names numbers (c.live_by_path.ensures.in_order p) s (c.placed_are_rows.ensures p (provided p) s e)
