-- The table of the PROVIDEs that are in force.
use Rattle.std.specs.Prelude.{◌≡◌, ℕ, ◌<◌, List, [], ◌∷◌, ◌++◌, length, map, Some, Bool, false, slice_get}
use Rattle.std.specs.Prelude.{slice_index_or, bytes_eq}
use Rattle.std.specs.List.{list_any}
use Rattle.std.specs.Option.{option_map_or}
use Rattle.ldscript.specs.statements.Numbering.{DirectiveAt, all_directives}
use Rattle.ldscript.specs.statements.declared.statement.Statement.{Statement}
use Rattle.ldmodel.specs.PlacementView.{given_name}
use Rattle.ldmodel.specs.declared.script_symbol.DirectiveIndex.{DirectiveIndex}
use Rattle.place_terms.specs.Tables.{symbol_number}

-- the name that a command of a list gives a value to
abbrev pub name_in : List DirectiveAt → ℕ → List ℕ
name_in commands k = option_map_or (λ (c : DirectiveAt). given_name c.command) (slice_get commands k) []

-- the names of the PROVIDEs that are in force
abbrev pub provided_names : List Statement → List DirectiveIndex → List (List ℕ)
provided_names script numbers = map (λ (k : DirectiveIndex). name_in (all_directives script) k.0) numbers

-- the table says under the number of a name whether it is one of these
pub record AreInForce (script : List Statement) (table : List Bool) (names : List (List ℕ)) : Type 0 where
  pub says : (name : List ℕ) (k : ℕ) → symbol_number script name ≡ Some k → k < length table
      → slice_index_or table k false ≡ list_any (bytes_eq name) names

-- a new table says so of one name more
abbrev pub Marks : List Statement → List Bool → List Bool → List ℕ → Type 0
Marks script old new name = (names : List (List ℕ)) → AreInForce script old names
    → AreInForce script new (names ++ name ∷ [])
