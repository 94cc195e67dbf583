-- Those of the sections so far.
use Rattle.place_sections.proofs.Common.{extents_in, take, ◌≡◌}
use Rattle.place_sections.proofs.overlaps.extents.Given as goal

abbrev pub invariant-loop-section : goal.invariant-loop-section
invariant-loop-section l = l.extents.items ≡ extents_in l.space (take l.section-index l.sections)
