-- The names of a link, as callers see them.
use Rattle.std.specs.Prelude.{ℕ, ◌≡◌, ◌<◌, List, Option, Some, length, map, slice_index_or}
use Rattle.std.specs.Prelude.{false}
use Rattle.std.specs.List.{enumerate_from}
use Rattle.std.specs.Option.{option_map}
use Rattle.elfobj.specs.Symbols.{NamedSymbol}
use Rattle.ldmodel.specs.CodeValues.{decision_of}
use Rattle.ldmodel.specs.Names.{decision, is_local, symbol_tables}
use Rattle.ldmodel.specs.Project.{Project}
use Rattle.ldmodel.specs.declared.names.Case.{Case}
use Rattle.ldmodel.specs.declared.names.ObjectPlace.{ObjectPlace}
use Rattle.symres_table.specs.State.{IsNamed, HasName}
use Rattle.symres_decisions.specs.Decided.{case_at}
use Rattle.symres_decisions.specs.Decisions.{DecisionsState}
use Rattle.symres.specs.Placed.{by_place, place_case}

-- what is kept between links, where objects have keys; and what a link sees of it, where they have places: the symbol
-- tables of the objects, the names under their keys, and the cases under these
pub record SymbolTableState : Type 0 where
  pub kept : DecisionsState
  pub objects : List (ℕ × List NamedSymbol)
  pub names : List (Option (List ℕ))
  pub cases : List (Option (Case ObjectPlace))

-- `order` has the keys of the objects by place
abbrev pub state_of : DecisionsState → (order : List ℕ) → SymbolTableState
state_of d order = record {
  kept = d;
  objects = by_place d.names.objects;
  names = d.names.names;
  cases = map (option_map (place_case order)) d.cases;
}

-- the key has a name, and the case is what it stands for in the project
pub record IsDecision (project : Project) (names : List (Option (List ℕ))) (k : ℕ) (c : Case ObjectPlace) : Type 0 where
  pub named : HasName names k
  pub case : (name : List ℕ) → IsNamed names k name → decision_of (λ key. key) c ≡ decision project name

-- the objects are those of the project, and each case is that of the name of its key
pub record IsSymbolTable (project : Project) (table : SymbolTableState) : Type 0 where
  pub objects : table.objects ≡ enumerate_from 0 (symbol_tables project.objects)
  pub sound : (k : ℕ) (c : Case ObjectPlace) → case_at table.cases k ≡ Some c → IsDecision project table.names k c

-- the object at the place has a symbol of this number, which isn't local
pub record IsSeenAt (objects : List (ℕ × List NamedSymbol)) (place number : ℕ) : Type 0 where
  pub within : place < length objects
  pub symbol : (t : ℕ × List NamedSymbol) → number < length (slice_index_or objects place t).1
  pub seen : (t : ℕ × List NamedSymbol) (d : NamedSymbol)
      → is_local (slice_index_or (slice_index_or objects place t).1 number d).symbol.binding ≡ false

-- the key is that of the name of the symbol of this number of the object at the place
abbrev pub IsNameAt : SymbolTableState → (place number k : ℕ) → Type 0
IsNameAt table place number k =
    (t : ℕ × List NamedSymbol) (d : NamedSymbol)
    → IsNamed table.names k (slice_index_or (slice_index_or table.objects place t).1 number d).name
