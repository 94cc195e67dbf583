-- The table has the names from here on.
use Rattle.ldscript_statements.proofs.Common.{List, drop, length, number_at, section_from, shown_sections, ℕ, ◌≡◌, ◌≤◌}
use Rattle.ldscript_statements.proofs.tables.section_names.Given as goal

abbrev pub invariant-loop-left : goal.invariant-loop-left
invariant-loop-left l = (l.left ≤ length l.sections)
    × ((name : List ℕ) → number_at l.table name ≡ section_from l.left (shown_sections (drop l.left l.sections)) name)

abbrev pub decreases-loop-left : goal.decreases-loop-left
decreases-loop-left l = l.left
