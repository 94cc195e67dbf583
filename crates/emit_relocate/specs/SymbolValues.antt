-- What each symbol of each object is worth in a link.
use Rattle.std.specs.Prelude.{◌≡◌, ◌+◌, ℕ, List, Some, drop, slice_get, slice_index_or, take}
use Rattle.std.specs.Option.{option_map_or}
use Rattle.elfobj.specs.Symbols.{NamedSymbol}
use Rattle.ldmodel.specs.Layout.{Layout}
use Rattle.ldmodel.specs.Project.{NamedObject, Project}
use Rattle.ldmodel.specs.SymbolValues as model
use Rattle.ldmodel.specs.Targets.{referenced_value}
use Rattle.ldmodel.specs.declared.names.ObjectPlace.{ObjectPlace}
use Rattle.emit_relocate.specs.KnownLink.{KnownLink, named_object}
use Rattle.emit_relocate.specs.Values.{value_of}
use Rattle.emit_relocate.specs.declared.symbol_values.SymbolValues.{SymbolValues}
use Rattle.emit_relocate.specs.declared.value.SymbolValue as code
use Rattle.emit_relocate.specs.declared.value.SymbolValue.TheVariants.{NotDefined}

-- the value under an object's place and a symbol's number
abbrev pub value_at : SymbolValues → ℕ → ℕ → code.SymbolValue
value_at t place number = slice_index_or t.values.items (slice_index_or t.starts.items place 0 + number) NotDefined

-- those of an object with a number of symbols
abbrev pub row_at : SymbolValues → ℕ → ℕ → List code.SymbolValue
row_at t place count = take count (drop (slice_index_or t.starts.items place 0) t.values.items)

-- to the relocations of its object
abbrev pub AreSymbolValues : Project → Layout → SymbolValues → Type 0
AreSymbolValues project layout t =
    (i j : ℕ) (object : NamedObject) (symbol : NamedSymbol) → slice_get project.objects i ≡ Some object
    → slice_get object.object.symbols j ≡ Some symbol → value_of (value_at t i j)
    ≡ referenced_value project layout object symbol

-- the same where the places in the table are the keys of a link
abbrev pub HasSymbolValues : KnownLink → SymbolValues → Type 0
HasSymbolValues link t =
    (key : ObjectPlace) (j : ℕ) (object : NamedObject) (symbol : NamedSymbol) → named_object link key ≡ Some object
    → slice_get object.object.symbols j ≡ Some symbol → value_of (value_at t key.0 j)
    ≡ referenced_value link.project link.layout object symbol

-- a list has the values of the symbols of an object, under their numbers, and no others
abbrev pub AreValuesOf : Project → Layout → NamedObject → List code.SymbolValue → Type 0
AreValuesOf project layout object row =
    (j : ℕ) → value_of (slice_index_or row j NotDefined)
    ≡ option_map_or (referenced_value project layout object) (slice_get object.object.symbols j) model.NotDefined

abbrev pub IsRow : KnownLink → NamedObject → List code.SymbolValue → Type 0
IsRow link object row = AreValuesOf link.project link.layout object row
