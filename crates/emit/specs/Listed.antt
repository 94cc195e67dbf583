-- The symbols of the output as the map takes them.
use Rattle.std.specs.Prelude.{ℕ, Option}
use Rattle.ldmodel.specs.Assertions.{number_if_any}
use Rattle.emit_relocate.specs.Values.{value_of}
use Rattle.emit_relocate.specs.declared.value.SymbolValue.{SymbolValue}
use Rattle.emit_text.specs.declared.symbols.MapSymbol.{MapSymbol}
use Rattle.emit_relocate.specs.SymbolRows.{definer_in, value_in}
use Rattle.emit_relocate.specs.declared.values.OutputSymbol.{OutputSymbol}

-- the number of a value, if it has one
abbrev pub number_of : SymbolValue → Option ℕ
number_of x = number_if_any (value_of x)

abbrev pub map_symbol : OutputSymbol → MapSymbol
map_symbol symbol =
    record { name = symbol.name; definer = definer_in symbol.row; value = number_of (value_in symbol.row) }
