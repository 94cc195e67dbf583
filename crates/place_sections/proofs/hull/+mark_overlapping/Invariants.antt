-- A node's children come after it.
use Rattle.place_sections.proofs.Common.{length, ◌-◌}
use Rattle.place_sections.proofs.hull.+mark_overlapping.Given as goal

abbrev pub decreases-mark_overlapping : goal.decreases-mark_overlapping
decreases-mark_overlapping l = length l.nodes.now - l.node
