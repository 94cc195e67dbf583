-- What was found, with what is still to be found, is all.
use Rattle.gather.proofs.Common.{drop, filter_map, marked, untaken, ◌++◌, ◌≡◌}
use Rattle.gather.proofs.live_sections.orphans.Given as goal

abbrev pub invariant-loop-place : goal.invariant-loop-place
invariant-loop-place l = l.found.items ++ filter_map untaken (marked (drop l.place l.marks) (drop l.place l.sections))
    ≡ filter_map untaken (marked l.marks l.sections)
