-- The values that a script gives names, under the keys of the names.
use Rattle.std.specs.Prelude.{◌≡◌, ◌<◌, ℕ, List, None, Option, length, slice_index_or}
use Rattle.symres.specs.Decided.{HasCase}
use Rattle.symres.specs.SymbolTable.{SymbolTableState}
use Rattle.symres.specs.table.State.{IsNamed}

-- each key of a name has a case, and what `value` says of the name
pub record IsGivenTable (a : SymbolTableState) (value : List ℕ → Option ℕ) (table : List (Option ℕ)) : Type 0 where
  pub cases : (k : ℕ) (name : List ℕ) → IsNamed a.names k name → HasCase a.cases k
  pub given : (k : ℕ) (name : List ℕ) → IsNamed a.names k name → slice_index_or table k None ≡ value name

-- each key of a name has a place in the table
abbrev pub HasPlaces : SymbolTableState → List (Option ℕ) → Type 0
HasPlaces a table = (k : ℕ) (name : List ℕ) → IsNamed a.names k name → k < length table

-- a value stands under the key of a name, if the name has one; those of other names are as before
pub record IsPut (table : SymbolTableState) (name : List ℕ) (value : Option ℕ)
    (old new : List (Option ℕ)) : Type 0 where
  pub long : length new ≡ length old
  pub here : (k : ℕ) → IsNamed table.names k name → slice_index_or new k None ≡ value
  pub others : (k : ℕ) (other : List ℕ) → IsNamed table.names k other → (other ≡ name → ⊥) → slice_index_or new k None
      ≡ slice_index_or old k None
