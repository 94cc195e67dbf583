-- The symbols of the output, name by name.
use Rattle.std.specs.Prelude.{◌≡◌, ℕ, ◌⊎◌, List, [], ◌∷◌, ◌++◌, map, filter, Bool, true, false}
use Rattle.std.specs.Prelude.{All, bytes_eq, if◌then◌else◌}
use Rattle.std.specs.Prelude.{◌+◌, ◌≤◌, Vec, vec_capacity, vec_len}
use Rattle.std.specs.Global.{Global}
use Rattle.std.specs.Borrow.{Bor}
use Rattle.std.specs.List.{AllPairs}
use Rattle.std.specs.List.Sorted.{IsPartitionPoint}
use Rattle.ldmodel.specs.Layout.{Layout}
use Rattle.ldmodel.specs.OutputSymbols as model
use Rattle.ldmodel.specs.OutputSymbols.{is_before, is_defined, output_symbol}
use Rattle.ldmodel.specs.Project.{Project}
use Rattle.symres.specs.SymbolTable.{IsSymbolTable}
use Rattle.symres.specs.declared.sorted.NamedKey.{NamedKey}
use Rattle.symres.specs.table.State.{IsNamed}
use Rattle.emit_relocate.specs.LinkView.{known_link}
use Rattle.emit_relocate.specs.NameRows.{AreResolved}
use Rattle.emit_relocate.specs.ScriptValues.{AreScriptValues}
use Rattle.emit_relocate.specs.Sizes.{plus_symbols}
use Rattle.emit_relocate.specs.LinkValues.{HasFacts, shown_symbol}
use Rattle.emit_relocate.specs.declared.sizes.SymbolSizes.{SymbolSizes}
use Rattle.emit_relocate.specs.declared.symbol_row.SymbolRow.{SymbolRow}
use Rattle.emit_relocate.specs.declared.symbols.Sources.{Sources}
use Rattle.emit_relocate.specs.declared.values.OutputSymbol.{OutputSymbol}

-- the symbol of a name with a row
abbrev pub symbol_with : Bor (List ℕ) → SymbolRow → OutputSymbol
symbol_with name row = record { name = name; row = row }

abbrev pub shown : Project → List OutputSymbol → List model.OutputSymbol
shown project xs = map (shown_symbol project) xs

-- a symbol was added if its name is defined
abbrev pub AddsIf : Bool → OutputSymbol → (old new : List OutputSymbol) → Type 0
AddsIf defined x old new = new ≡ old ++ (if defined then x ∷ [] else [])

-- those that stand for something
abbrev pub defined : List model.OutputSymbol → List model.OutputSymbol
defined xs = filter (λ (x : model.OutputSymbol). is_defined x.decision) xs

abbrev pub defined_symbols : Project → Layout → List (List ℕ) → List model.OutputSymbol
defined_symbols project layout names = defined (map (output_symbol project layout) names)

-- they are those of a project at a layout
pub record AreSources (project : Project) (layout : Layout) (x : Sources) : Type 0 where
  pub symbol_table : IsSymbolTable project x.symbol_table.now
  pub script : project.script ≡ x.script.now
  pub rows : AreResolved (known_link project layout x.symbol_table.now) x.rows.now
  pub given : AreScriptValues layout x.given.now

-- the symbols of these names were added
abbrev pub AddsSymbols : Project → Layout → List (List ℕ) → (old new : List OutputSymbol) → Type 0
AddsSymbols project layout names old new =
    shown project new ≡ shown project old ++ defined_symbols project layout names

-- where all symbols had what the symbol table says of them, they have
abbrev pub KeepsFacts : Project → Layout → (old new : List OutputSymbol) → Type 0
KeepsFacts project layout old new = All (HasFacts project layout) old → All (HasFacts project layout) new

abbrev pub names_in : List OutputSymbol → List (List ℕ)
names_in xs = map (λ (symbol : OutputSymbol). symbol.name.now) xs

-- one symbol was added at most, into room that was there
abbrev pub IsWithinRoom : (old new : Vec OutputSymbol Global) → Type 0
IsWithinRoom old new = (vec_len new ≤ vec_len old + 1) × (vec_capacity new ≡ vec_capacity old)

-- nothing was added, or one symbol of this name
abbrev pub AddsAtMost : List ℕ → (old new : List OutputSymbol) → Type 0
AddsAtMost name old new = (names_in new ≡ names_in old) ⊎ (names_in new ≡ names_in old ++ name ∷ [])

-- names with keys
abbrev pub keyed_names : List NamedKey → List (List ℕ)
keyed_names xs = map (λ (x : NamedKey). x.name.now) xs

-- they stand in byte order, each once
abbrev pub AreUp : List NamedKey → Type 0
AreUp xs = AllPairs (λ (x y : NamedKey). is_before x.name.now y.name.now ≡ true) xs

-- each has its key
abbrev pub AreKeyed : Sources → List NamedKey → Type 0
AreKeyed sources xs = All (λ (x : NamedKey). IsNamed sources.symbol_table.now.names x.key.0 x.name.now) xs

-- no name before this place comes after a name, and all from it on do
abbrev pub IsPlaceAmong : List ℕ → List NamedKey → ℕ → Type 0
IsPlaceAmong name xs n =
    IsPartitionPoint (λ (x : NamedKey). is_before name x.name.now ≡ false)
    (λ (x : NamedKey). is_before name x.name.now ≡ true) xs n

-- the last name is this one
abbrev pub ends_with : List (List ℕ) → List ℕ → Bool
ends_with [] name = false
ends_with (x ∷ []) name = bytes_eq x name
ends_with (x ∷ y ∷ ys) name = ends_with (y ∷ ys) name

-- names, and another after them unless it is the last of them
abbrev pub with_name : List (List ℕ) → List ℕ → List (List ℕ)
with_name names name = names ++ (if ends_with names name then [] else name ∷ [])

-- some of these names, in their order
abbrev pub Picks : List (List ℕ) → List (List ℕ) → Type 0
Picks [] picked = picked ≡ []
Picks (name ∷ names) picked =
    Picks names picked ⊎ ((rest : List (List ℕ)) × (picked ≡ name ∷ rest) × Picks names rest)

-- symbols of some of these names were added
abbrev pub AddsSome : List (List ℕ) → (old new : List OutputSymbol) → Type 0
AddsSome names old new =
    (picked : List (List ℕ)) × Picks names picked × (names_in new ≡ names_in old ++ picked)

-- what was counted of the symbols before is now counted of all
abbrev pub KeepsCount : SymbolSizes → SymbolSizes → (old new : List OutputSymbol) → Type 0
KeepsCount before after old new =
    before ≡ plus_symbols (record { count = 0; names = 0 }) old
    → after ≡ plus_symbols (record { count = 0; names = 0 }) new
