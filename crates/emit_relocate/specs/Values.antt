-- The values of symbols as the code hands them on.
use Rattle.std.specs.Prelude.{ℕ, Option, Some, None}
use Rattle.ldmodel.specs.Arithmetic.{plus_modulo}
use Rattle.ldmodel.specs.SymbolValues.{SymbolValue, Number, NotDefined, NotInOutput}
use Rattle.emit_relocate.specs.declared.value.SymbolValue as code
use Rattle.emit_relocate.specs.declared.value.SymbolValue.TheVariants as value

abbrev pub value_of : code.SymbolValue → SymbolValue
value_of (value.Number x) = Number x
value_of value.NotDefined = NotDefined
value_of value.NotInOutput = NotInOutput

-- an address at an offset from where an input section starts, if it is in the output
abbrev pub address_from : Option ℕ → ℕ → SymbolValue
address_from None offset = NotInOutput
address_from (Some start) offset = Number (plus_modulo start offset)
