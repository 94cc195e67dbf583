use Rattle.emit.proofs.Common.{provided, rows}
use Rattle.emit.proofs.Ending.{ends_below}
use Rattle.emit.proofs.Sizes.{end_below}
use Rattle.emit.proofs.law.sections_end_below.Goals as goal

pub returns : goal.returns
returns c =
    λ p s a names numbers e.
    end_below p names numbers (c.live_by_path.ensures.in_order p) s
    (c.placed_are_rows.ensures p (provided p) s e)
    (ends_below p.script s (c.layout_by_effects.ensures p.script (rows p) (provided p) s e)) a
