-- What is found, with what is still to be found, is all.
use Rattle.place_sections.proofs.Common.{drop, overlaps_after, overlaps_before, take, ◌++◌, ◌≡◌}
use Rattle.place_sections.proofs.overlaps.push_first_overlaps.Given as goal

abbrev pub invariant-loop-k : goal.invariant-loop-k
invariant-loop-k l =
    l.faults.items ++ overlaps_after l.space (take l.k l.extents) (drop l.k l.extents)
    ≡ l.initial.faults.items ++ overlaps_before l.space l.extents
