-- No address is in two of the ranges so far, and none past their end is in one.
use Rattle.place_sections.proofs.Covering.{Ascending}
use Rattle.place_sections.proofs.extent.are_ascending.Given as goal

abbrev pub invariant-loop-extent : goal.invariant-loop-extent
invariant-loop-extent l = Ascending l.extents l.extent-index l.end
