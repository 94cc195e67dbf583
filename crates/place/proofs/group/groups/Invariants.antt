-- The output sections so far are in groups.
use Rattle.place.proofs.Common.{Grouped, List, PlacedOutput, drop, map, placed_of, ◌≡◌}
use Rattle.place.proofs.group.groups.Given as goal

abbrev pub invariant-loop-number : goal.invariant-loop-number
invariant-loop-number l =
    (s : List PlacedOutput) → map placed_of s ≡ l.sections
    → Grouped s (drop l.number s) l.grouping.done.items l.grouping.running
