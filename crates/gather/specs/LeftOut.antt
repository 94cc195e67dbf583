-- Which sections are left out before references are followed, by the number of the statement that takes them.
use Rattle.std.specs.Prelude.{ℕ, List, Option, Some, None, Bool, false, not, ◌||◌, ◌==◌, slice_get, option_and_then}
use Rattle.ldscript.specs.statements.Numbering.{InputStatementAt}
use Rattle.ldmodel.specs.Gathering.{is_discard, are_discarded}
use Rattle.ldmodel.specs.declared.options.Orphans.{Orphans}

abbrev pub is_out_by : Orphans → (size : ℕ) → Option InputStatementAt → Bool
is_out_by orphans size None = (size == 0) || are_discarded orphans
is_out_by orphans size (Some i) = is_discard i.place

-- the section has this size, and the statement of this number takes it
abbrev pub is_out_of : List InputStatementAt → Orphans → (size : ℕ) → Option ℕ → Bool
is_out_of statements orphans size number = is_out_by orphans size (option_and_then (slice_get statements) number)

-- a statement that is there and is one of an output section
abbrev pub is_placed_by : Option InputStatementAt → Bool
is_placed_by None = false
is_placed_by (Some i) = not (is_discard i.place)

-- that of this number
abbrev pub is_placed_in : List InputStatementAt → ℕ → Bool
is_placed_in statements number = is_placed_by (slice_get statements number)
