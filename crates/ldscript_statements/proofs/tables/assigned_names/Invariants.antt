-- The table has the names from here on.
use Rattle.ldscript_statements.proofs.Common.{List, assigned_from, drop, length, number_at, shown_directives, ℕ, ◌≡◌}
use Rattle.ldscript_statements.proofs.Common.{◌≤◌}
use Rattle.ldscript_statements.proofs.tables.assigned_names.Given as goal

abbrev pub invariant-loop-left : goal.invariant-loop-left
invariant-loop-left l = (l.left ≤ length l.directives)
    × ((name : List ℕ) → number_at l.table name ≡ assigned_from l.left (shown_directives (drop l.left l.directives))
    name)

abbrev pub decreases-loop-left : goal.decreases-loop-left
decreases-loop-left l = l.left
