-- No address is in two of the output sections so far, and none past their end is in one.
use Rattle.place_sections.proofs.Common.{extents_in}
use Rattle.place_sections.proofs.Covering.{Ascending}
use Rattle.place_sections.proofs.overlaps.are_in_order.Given as goal

abbrev pub invariant-loop-section : goal.invariant-loop-section
invariant-loop-section l = Ascending (extents_in l.space l.sections) l.section-index l.end
