-- The symbols of the output by their names.
use Rattle.std.specs.Prelude.{ℕ, List, Option, None, Some, bytes_eq, find}
use Rattle.std.specs.Cmp.Lexicographic.{slice_cmp}
use Rattle.std.specs.List.Sorted.{IsSortedByKey}
use Rattle.std.specs.Ordering.{nat_cmp}
use Rattle.ldmodel.specs.SymbolValues.{SymbolValue, NotDefined}
use Rattle.emit_relocate.specs.SymbolRows.{value_in}
use Rattle.emit_relocate.specs.Values.{value_of}
use Rattle.emit_relocate.specs.declared.values.OutputSymbol.{OutputSymbol}

-- the symbol of a name
abbrev pub found_symbol : List OutputSymbol → List ℕ → Option OutputSymbol
found_symbol symbols name = find (λ (symbol : OutputSymbol). bytes_eq symbol.name.now name) symbols

-- its value: a name without a symbol has none
abbrev pub value_found : Option OutputSymbol → SymbolValue
value_found None = NotDefined
value_found (Some symbol) = value_of (value_in symbol.row)

-- in byte order of their names
abbrev pub AreInOrder : List OutputSymbol → Type 0
AreInOrder symbols = IsSortedByKey (λ (symbol : OutputSymbol). symbol.name.now) (slice_cmp nat_cmp) symbols
