-- What a row has of a name: what defines it, its value, and what the symbol table says of it.
use Rattle.std.specs.Prelude.{ℕ}
use Rattle.ldmodel.specs.declared.names.ObjectPlace.{ObjectPlace}
use Rattle.emit_relocate.specs.declared.value.SymbolValue.{SymbolValue}
use Rattle.emit_relocate.specs.declared.value.SymbolValue.TheVariants as value
use Rattle.emit_text.specs.declared.definer.Definer.{Definer}
use Rattle.emit_text.specs.declared.definer.Definer.TheVariants as definer
use Rattle.emit_relocate.specs.declared.name_row.SymbolFacts.{SymbolFacts}
use Rattle.emit_relocate.specs.declared.symbol_row.DefinerKind.{DefinerKind}
use Rattle.emit_relocate.specs.declared.symbol_row.DefinerKind.TheVariants as definer_kind
use Rattle.emit_relocate.specs.declared.symbol_row.SymbolRow.{SymbolRow}
use Rattle.emit_relocate.specs.declared.symbol_row.ValueKind.{ValueKind}
use Rattle.emit_relocate.specs.declared.symbol_row.ValueKind.TheVariants as value_kind

abbrev pub definer_with : DefinerKind → ObjectPlace → Definer
definer_with definer_kind.Nothing place = definer.Nothing
definer_with definer_kind.Script place = definer.Script
definer_with definer_kind.Object place = definer.Object place
definer_with definer_kind.WeakOf place = definer.WeakOf place

abbrev pub value_with : ValueKind → ℕ → SymbolValue
value_with value_kind.Number number = value.Number number
value_with value_kind.NotDefined number = value.NotDefined
value_with value_kind.NotInOutput number = value.NotInOutput

abbrev pub definer_in : SymbolRow → Definer
definer_in x = definer_with x.definer_kind x.object

abbrev pub value_in : SymbolRow → SymbolValue
value_in x = value_with x.value_kind x.number

abbrev pub facts_in : SymbolRow → SymbolFacts
facts_in x = record { kind = x.kind; section = x.section; size = x.size }
