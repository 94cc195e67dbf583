-- Keys of objects, and places in their stead.
use Rattle.std.specs.Prelude.{ℕ, List, map}
use Rattle.std.specs.List.{enumerate_from}
use Rattle.elfobj.specs.Symbols.{NamedSymbol}
use Rattle.ldmodel.specs.declared.names.Case.{Case}
use Rattle.ldmodel.specs.declared.names.Case.TheVariants as case
use Rattle.ldmodel.specs.declared.names.Entry.{Entry}
use Rattle.ldmodel.specs.declared.names.ObjectKey.{ObjectKey}
use Rattle.ldmodel.specs.declared.names.ObjectPlace.{ObjectPlace}
use Rattle.ldmodel_project.specs.Tables.{place_or_0}

-- the keys of objects, in the order of their tables
abbrev pub keys_of : List (ℕ × List NamedSymbol) → List ℕ
keys_of tables = map (λ (t : ℕ × List NamedSymbol). t.0) tables

-- the tables, each under its place
abbrev pub by_place : List (ℕ × List NamedSymbol) → List (ℕ × List NamedSymbol)
by_place tables = enumerate_from 0 (map (λ (t : ℕ × List NamedSymbol). t.1) tables)

-- an entry under the place of its object, where these are the keys by place
abbrev pub place_entry : List ℕ → Entry ObjectKey → Entry ObjectPlace
place_entry keys e = record { object = record { 0 = place_or_0 keys e.object.0 }; symbol = e.symbol }

-- a case with places for keys
abbrev pub place_case : List ℕ → Case ObjectKey → Case ObjectPlace
place_case keys (case.Strong e) = case.Strong (place_entry keys e)
place_case keys case.Script = case.Script
place_case keys (case.Common owner size align) = case.Common (place_entry keys owner) size align
place_case keys (case.Weak e) = case.Weak (place_entry keys e)
place_case keys case.Provided = case.Provided
place_case keys case.Undefined = case.Undefined
place_case keys case.Duplicate = case.Duplicate
