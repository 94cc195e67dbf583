-- The names of a link in byte order, with their keys.
use Rattle.std.specs.Prelude.{◌≡◌, ℕ, List, map, true, Contains}
use Rattle.std.specs.List.{All, AllPairs}
use Rattle.ldmodel.specs.Names.{names_in_objects}
use Rattle.ldmodel.specs.OutputSymbols.{is_before}
use Rattle.ldmodel.specs.Project.{Project}
use Rattle.symres.specs.SymbolTable.{IsSymbolTable, SymbolTableState}
use Rattle.symres.specs.declared.sorted.NamedKey.{NamedKey}
use Rattle.symres_table.specs.State.{AreDistinct, IsNamed}

-- each name beside its key, the names in byte order, each once; among them are all that objects declare, and each that
-- has a key. No two keys have one name
pub record AreSorted (table : SymbolTableState) (xs : List NamedKey) : Type 0 where
  pub named : All (λ (x : NamedKey). IsNamed table.names x.key.0 x.name.now) xs
  pub distinct : AreDistinct table.names
  pub order : AllPairs (λ (x y : NamedKey). is_before x.name.now y.name.now ≡ true) xs
  pub keys : (k : ℕ) (name : List ℕ) → IsNamed table.names k name
      → Contains (map (λ (x : NamedKey). x.name.now) xs) name
  pub declared : (project : Project) → IsSymbolTable project table → (name : List ℕ)
      → Contains (names_in_objects project.objects) name
      → Contains (map (λ (x : NamedKey). x.name.now) xs) name

-- the number of a name's key beside the name
abbrev pub named_number : NamedKey → List ℕ × ℕ
named_number x = (x.name.now, x.key.0)
