-- The symbol table of the image, `.symtab`, and its names, `.strtab` (gABI, "String Table" and "Symbol Table"). Which
-- symbols stand there, and in which order, is this project's choice: those of the output with a value, in byte order of
-- their names. `.shstrtab`, the section headers, and where all these stand, are in `SectionHeaders`.
use Rattle.std.specs.Prelude.{ℕ, ◌+◌, ◌*◌, List, [], ◌∷◌, ◌++◌, length, map, replicate, sum_by, Option, Some, None}
use Rattle.std.specs.Prelude.{filter_map, flat_map, position, take}
use Rattle.std.specs.List.{list_any, enumerate_from}
use Rattle.std.specs.Option.{option_map_or}
use Rattle.std.specs.Int.{to_le_bytes, w16, w32, w64}
use Rattle.elfobj.specs.file.declared.constants.TheConstants.{SHN_ABS, STB_GLOBAL, STB_WEAK, STT_NOTYPE, STT_OBJECT}
use Rattle.elfobj.specs.file.declared.constants.TheConstants.{STT_FUNC, STT_SECTION, STT_FILE}
use Rattle.elfobj.specs.declared.symbol.Symbol.{Symbol}
use Rattle.elfobj.specs.declared.symbol.SymbolKind.{SymbolKind}
use Rattle.elfobj.specs.declared.symbol.SymbolKind.TheVariants as kind
use Rattle.elfobj.specs.declared.symbol.SymbolPlace.{SymbolPlace}
use Rattle.elfobj.specs.declared.symbol.SymbolPlace.TheVariants as place
use Rattle.ldmodel.specs.Layout.{Layout, PlacedOutput}
use Rattle.ldmodel.specs.NameFaults.{object_name}
use Rattle.ldmodel.specs.Names.{Entry, Decision, Strong, Common, Weak}
use Rattle.ldmodel.specs.OutputSymbols.{OutputSymbol, output_symbols}
use Rattle.ldmodel.specs.Project.{Project}
use Rattle.ldmodel.specs.SymbolValues.{SymbolValue, Number, NotDefined, NotInOutput, is_part, symbol_index}
use Rattle.ldmodel.specs.SymbolValues.{symbol_of_entry}
use Rattle.ldmodel.specs.declared.sections.Part.{Part}
use Rattle.ldmodel.specs.declared.sections.Part.TheVariants.{InTable, InCommon}

-- names, each after a zero byte, and one more at the end: a string table that shares nothing
abbrev pub string_table : List (List ℕ) → List ℕ
string_table names = 0 ∷ flat_map (λ name. name ++ 0 ∷ []) names

-- where name number i of a string table begins in it
abbrev pub name_offset : List (List ℕ) → ℕ → ℕ
name_offset names i = 1 + sum_by (λ name. length name + 1) (take i names)

-- Elf64_Sym, 24 bytes: st_name, st_info (binding and type), st_other, st_shndx, st_value, st_size
pub record SymbolEntry : Type 0 where
  pub name : ℕ
  pub binding : ℕ
  pub type : ℕ
  pub section : ℕ
  pub value : ℕ
  pub size : ℕ

abbrev pub symbol_bytes : SymbolEntry → List ℕ
symbol_bytes x =
    to_le_bytes w32 x.name ++ (16 * x.binding + x.type) ∷ 0 ∷ [] ++ to_le_bytes w16 x.section
    ++ to_le_bytes w64 x.value ++ to_le_bytes w64 x.size

-- a weak definition stays weak, any other symbol is global
abbrev pub st_binding : Decision → ℕ
st_binding (Weak entry) = STB_WEAK
st_binding _ = STB_GLOBAL

-- the type of an object's own symbol; the output has no common ones, so they are data
abbrev pub kind_number : SymbolKind → ℕ
kind_number kind.NoType = STT_NOTYPE
kind_number kind.Object = STT_OBJECT
kind_number kind.Function = STT_FUNC
kind_number kind.Section = STT_SECTION
kind_number kind.File = STT_FILE
kind_number kind.Common = STT_OBJECT

abbrev pub entry_type : Project → Entry → ℕ
entry_type project entry = option_map_or (λ (x : Symbol). kind_number x.kind) (symbol_of_entry project entry) STT_NOTYPE

abbrev pub st_type_of : Project → Decision → ℕ
st_type_of project (Strong entry) = entry_type project entry
st_type_of project (Weak entry) = entry_type project entry
st_type_of project (Common owner size alignment) = STT_OBJECT
st_type_of project _ = STT_NOTYPE

abbrev pub entry_size : Project → Entry → ℕ
entry_size project entry = option_map_or (λ (x : Symbol). x.size) (symbol_of_entry project entry) 0

abbrev pub st_size : Project → Decision → ℕ
st_size project (Strong entry) = entry_size project entry
st_size project (Weak entry) = entry_size project entry
st_size project (Common owner size alignment) = size
st_size project _ = 0

-- the number of the header of the output section that a part of an object stands in. It is asked of symbols with a
-- value alone, so that some output section holds the part; SHN_ABS, where none does, stands in no symbol table
abbrev pub header_of_part : Layout → List ℕ → Part → ℕ
header_of_part layout object part =
    option_map_or (λ n. n + 1)
    (position (λ (output : PlacedOutput). list_any (is_part object part) output.pieces) layout.sections) SHN_ABS

abbrev pub header_of_place : Layout → List ℕ → SymbolPlace → ℕ
header_of_place layout object (place.Section index) = header_of_part layout object (InTable index)
header_of_place layout object _ = SHN_ABS

abbrev pub entry_header : Project → Layout → Entry → ℕ
entry_header project layout e =
    option_map_or (λ (x : Symbol). header_of_place layout (object_name project e.object) x.place)
    (symbol_of_entry project e) SHN_ABS

-- SHN_ABS for a number of an object or of the script
abbrev pub st_shndx : Project → Layout → Decision → ℕ
st_shndx project layout (Strong entry) = entry_header project layout entry
st_shndx project layout (Weak entry) = entry_header project layout entry
st_shndx project layout (Common owner size alignment) =
    header_of_part layout (object_name project owner.object) (InCommon (symbol_index owner))
st_shndx project layout _ = SHN_ABS

-- a symbol that has a value, and that value
pub record ValuedSymbol : Type 0 where
  pub name : List ℕ
  pub decision : Decision
  pub value : ℕ

abbrev pub with_value : OutputSymbol → SymbolValue → Option ValuedSymbol
with_value symbol (Number value) = Some (record { name = symbol.name; decision = symbol.decision; value = value })
with_value symbol NotDefined = None
with_value symbol NotInOutput = None

-- the symbols of the symbol table
abbrev pub table_symbols : Project → Layout → List ValuedSymbol
table_symbols project layout =
    filter_map (λ (symbol : OutputSymbol). with_value symbol symbol.value) (output_symbols project layout)

abbrev pub symbol_names : Project → Layout → List (List ℕ)
symbol_names project layout = map (λ (x : ValuedSymbol). x.name) (table_symbols project layout)

abbrev pub symbol_entry : Project → Layout → ℕ × ValuedSymbol → SymbolEntry
symbol_entry project layout x = record {
  name = name_offset (symbol_names project layout) x.0;
  binding = st_binding x.1.decision;
  type = st_type_of project x.1.decision;
  section = st_shndx project layout x.1.decision;
  value = x.1.value;
  size = st_size project x.1.decision;
}

-- `.symtab`: a null entry, and those of the symbols
unfoldable pub output_symbol_table : Project → Layout → List ℕ
output_symbol_table project layout =
    replicate 24 0 ++ flat_map (λ x. symbol_bytes (symbol_entry project layout x))
    (enumerate_from 0 (table_symbols project layout))

-- `.strtab`
unfoldable pub symbol_name_table : Project → Layout → List ℕ
symbol_name_table project layout = string_table (symbol_names project layout)
