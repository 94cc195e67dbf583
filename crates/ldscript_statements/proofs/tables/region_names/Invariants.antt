-- The table has the names from here on.
use Rattle.ldscript_statements.proofs.Common.{List, drop, length, number_at, region_from, shown_regions, ℕ, ◌≡◌, ◌≤◌}
use Rattle.ldscript_statements.proofs.tables.region_names.Given as goal

abbrev pub invariant-loop-left : goal.invariant-loop-left
invariant-loop-left l = (l.left ≤ length l.regions)
    × ((name : List ℕ) → number_at l.table name ≡ region_from l.left (shown_regions (drop l.left l.regions)) name)

abbrev pub decreases-loop-left : goal.decreases-loop-left
decreases-loop-left l = l.left
