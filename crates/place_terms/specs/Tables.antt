-- Tables under the numbers that a script gives its names, and when they find what a search by name does.
use Rattle.std.specs.Prelude.{◌≡◌, ℕ, ◌<◌, List, [], length, Option, Some, None, slice_index_or}
use Rattle.std.specs.Option.{option_and_then}
pub use Rattle.place_terms.specs.Numbers.{number_of, symbol_number}

-- the entry of a table under the number of a name
abbrev pub entry_under : {X : Type 0} → List (Option X) → Option ℕ → Option X
entry_under table number = option_and_then (λ k. slice_index_or table k None) number

-- names stand in the order of their numbers
abbrev pub AreInOrder : (List ℕ → Option ℕ) → List (List ℕ) → Type 0
AreInOrder number names = (k : ℕ) → k < length names → number (slice_index_or names k []) ≡ Some k
