-- How much symbols have in the symbol table.
use Rattle.std.specs.Prelude.{ℕ, ◌+◌, List, [], ◌∷◌, length}
use Rattle.ldmodel.specs.SymbolValues.{SymbolValue, Number, NotDefined, NotInOutput}
use Rattle.emit_relocate.specs.Values.{value_of}
use Rattle.emit_relocate.specs.SymbolRows.{value_in}
use Rattle.emit_relocate.specs.declared.sizes.SymbolSizes.{SymbolSizes}
use Rattle.emit_relocate.specs.declared.values.OutputSymbol.{OutputSymbol}

-- one more symbol
abbrev pub plus_value : SymbolSizes → List ℕ → SymbolValue → SymbolSizes
plus_value t name (Number v) = record { count = t.count + 1; names = t.names + (length name + 1) }
plus_value t name NotDefined = t
plus_value t name NotInOutput = t

abbrev pub plus_symbol : SymbolSizes → OutputSymbol → SymbolSizes
plus_symbol t symbol = plus_value t symbol.name.now (value_of (value_in symbol.row))

-- these symbols more
abbrev pub plus_symbols : SymbolSizes → List OutputSymbol → SymbolSizes
plus_symbols t [] = t
plus_symbols t (x ∷ xs) = plus_symbols (plus_symbol t x) xs
