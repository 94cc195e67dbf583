-- The values of symbols in the output (gABI, "Symbol Table", "Symbol Values": in an executable file a symbol's value is
-- an address; for a symbol of a section it is the section's address and st_value; for SHN_ABS st_value itself).
use Rattle.std.specs.Prelude.{ℕ, List, find, flat_map, Option, Some, None, Bool, ◌&&◌, bytes_eq}
use Rattle.std.specs.Option.{option_map, option_map_or}
use Rattle.elfobj.specs.Symbols.{NamedSymbol}
use Rattle.elfobj.specs.declared.relocation.SymbolIndex.{SymbolIndex}
use Rattle.elfobj.specs.declared.symbol.Symbol.{Symbol}
use Rattle.elfobj.specs.declared.symbol.SymbolPlace.{SymbolPlace}
use Rattle.elfobj.specs.declared.symbol.SymbolPlace.TheVariants as place
use Rattle.ldmodel.specs.Arithmetic.{plus_modulo}
use Rattle.ldmodel.specs.Layout.{Layout, PlacedPiece, PlacedOutput, script_value}
use Rattle.ldmodel.specs.Live.{symbol_at}
use Rattle.ldmodel.specs.NameFaults.{object_name}
use Rattle.ldmodel.specs.Names.{Entry, Decision, Strong, Script, Common, Weak, Provided, Undefined, Duplicate, decision}
use Rattle.ldmodel.specs.Names.{entry_symbol}
use Rattle.ldmodel.specs.Project.{Project}
use Rattle.ldmodel.specs.Sections.{is_same_part}
use Rattle.ldmodel.specs.declared.sections.Part.{Part}
use Rattle.ldmodel.specs.declared.sections.Part.TheVariants.{InTable, InCommon}

-- a number; nothing defines the symbol; its section is not in the output
pub data SymbolValue : Type 0 where
  Number : (value : ℕ) → SymbolValue
  NotDefined : SymbolValue
  NotInOutput : SymbolValue

-- all input sections in the output, in their order
abbrev pub placed_pieces : Layout → List PlacedPiece
placed_pieces layout = flat_map (λ (output : PlacedOutput). output.pieces) layout.sections

-- a part of an object is this piece
abbrev pub is_part : List ℕ → Part → PlacedPiece → Bool
is_part object part placed = bytes_eq placed.piece.object object && is_same_part placed.piece.part part

-- a part of an object in the output
abbrev pub placed_part : Layout → List ℕ → Part → Option PlacedPiece
placed_part layout object part = find (is_part object part) (placed_pieces layout)

-- an address at an offset from where a part of an object starts
abbrev pub address_in : Option PlacedPiece → ℕ → SymbolValue
address_in None offset = NotInOutput
address_in (Some x) offset = Number (plus_modulo x.start offset)

-- the value of a symbol by its own entry; entry number 0 of a table has the value 0. The object reader leaves no other
-- entry that is looked up here undefined, and none common
abbrev pub own_value : Layout → List ℕ → SymbolPlace → ℕ → SymbolValue
own_value layout object (place.Section index) value = address_in (placed_part layout object (InTable index)) value
own_value layout object place.Absolute value = Number value
own_value layout object place.Undefined value = Number 0
own_value layout object place.Common value = NotDefined

-- the symbol of an entry
abbrev pub symbol_of_entry : Project → Entry → Option Symbol
symbol_of_entry project entry =
    option_map (λ (symbol : NamedSymbol). symbol.symbol) (symbol_at project entry.object entry.symbol)

abbrev pub entry_value : Project → Layout → Entry → SymbolValue
entry_value project layout e =
    option_map_or (λ (x : Symbol). own_value layout (object_name project e.object) x.place x.value)
    (symbol_of_entry project e) NotDefined

-- the number of the symbol of an entry
abbrev pub symbol_index : Entry → SymbolIndex
symbol_index entry = record { 0 = entry.symbol }

abbrev pub value_or_undefined : Option ℕ → SymbolValue
value_or_undefined None = NotDefined
value_or_undefined (Some x) = Number x

-- the value of a name, by what it stands for: that of its definition, the address of its common block, or the number
-- that the script gives it
abbrev pub decided_value : Project → Layout → List ℕ → Decision → SymbolValue
decided_value project layout name (Strong entry) = entry_value project layout entry
decided_value project layout name (Weak entry) = entry_value project layout entry
decided_value project layout name (Common owner size alignment) =
    address_in (placed_part layout (object_name project owner.object) (InCommon (symbol_index owner))) 0
decided_value project layout name Script = value_or_undefined (script_value layout name)
decided_value project layout name Provided = value_or_undefined (script_value layout name)
decided_value project layout name Undefined = NotDefined
-- a link with such a name ends before
decided_value project layout name Duplicate = NotDefined

unfoldable pub name_value : Project → Layout → List ℕ → SymbolValue
name_value project layout name = decided_value project layout name (decision project name)

abbrev pub value_if_named : Project → Layout → Option (List ℕ) → SymbolValue
value_if_named project layout None = Number 0
value_if_named project layout (Some name) = name_value project layout name

-- e_entry: the value of the entry symbol; without one it is 0
unfoldable pub entry_point : Project → Layout → SymbolValue
entry_point project layout = value_if_named project layout (entry_symbol project)

-- a number, or else 0
abbrev pub number_or_0 : SymbolValue → ℕ
number_or_0 (Number x) = x
number_or_0 _ = 0
