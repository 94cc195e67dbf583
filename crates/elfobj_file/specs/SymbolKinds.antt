-- Bindings and types of symbols (gABI, "Symbol Table").
use Rattle.std.specs.Prelude.{ℕ, ◌==◌, if◌then◌else◌}
use Rattle.elfobj_file.specs.declared.constants.TheConstants.{STB_LOCAL, STB_GLOBAL, STT_NOTYPE, STT_OBJECT, STT_FUNC}
use Rattle.elfobj_file.specs.declared.constants.TheConstants.{STT_SECTION, STT_FILE}
use Rattle.elfobj_file.specs.declared.symbol.Binding.{Binding}
use Rattle.elfobj_file.specs.declared.symbol.Binding.TheVariants as binding
use Rattle.elfobj_file.specs.declared.symbol.SymbolKind.{SymbolKind}
use Rattle.elfobj_file.specs.declared.symbol.SymbolKind.TheVariants as kind

abbrev pub binding_of : ℕ → Binding
binding_of number =
    if number == STB_LOCAL then binding.Local
    else (if number == STB_GLOBAL then binding.Global
    else binding.Weak)

abbrev pub symbol_kind_of : ℕ → SymbolKind
symbol_kind_of number =
    if number == STT_NOTYPE then kind.NoType
    else (if number == STT_OBJECT then kind.Object
    else (if number == STT_FUNC then kind.Function
    else (if number == STT_SECTION then kind.Section
    else (if number == STT_FILE then kind.File
    else kind.Common))))
