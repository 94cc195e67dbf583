use Rattle.emit_image.proofs.Settling.{placed_in_memory}
use Rattle.emit_image.proofs.law.placement_is_in_memory.Goals as goal

pub returns : goal.returns
returns c =
    λ script rows provided s e.
    placed_in_memory script s (c.nothing_overlaps.ensures script rows provided s e)
    (c.layout_by_effects.ensures script rows provided s e)
