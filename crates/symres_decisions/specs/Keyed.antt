-- Objects under their keys.
use Rattle.std.specs.Prelude.{ℕ, List, map, ◌≢◌}
use Rattle.std.specs.List.{AllPairs}
use Rattle.elfobj.specs.Symbols.{NamedSymbol}
use Rattle.symres_decisions.specs.declared.keyed_object.KeyedObject.{KeyedObject}

-- the symbol table of an object under its key
abbrev pub table_of : KeyedObject → ℕ × List NamedSymbol
table_of x = (x.key.0, x.object.now.symbols)

abbrev pub tables_of : List KeyedObject → List (ℕ × List NamedSymbol)
tables_of objects = map table_of objects

-- no two have one key
abbrev pub AreApart : List KeyedObject → Type 0
AreApart objects = AllPairs (λ (x y : KeyedObject). x.key.0 ≢ y.key.0) objects
