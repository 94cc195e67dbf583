-- The symbols of an object (gABI, "Symbol Table").
use Rattle.std.specs.Prelude.{ℕ, ◌/◌, List, [], ◌∷◌, map, position, find, Option, Some, None, Bool, ◌==◌, if◌then◌else◌}
use Rattle.std.specs.Prelude.{unwrap_or}
use Rattle.elfobj_file.specs.SymbolKinds.{binding_of, symbol_kind_of}
use Rattle.elfobj_file.specs.Names.{string_at}
use Rattle.elfobj_file.specs.SectionHeaders.{header, headers, file_bytes}
use Rattle.elfobj_file.specs.SymbolEntries.{symbol_entries_below, st_bind, st_type}
use Rattle.elfobj_file.specs.declared.constants.TheConstants.{SHT_SYMTAB, STB_LOCAL, SHN_UNDEF, SHN_ABS, SHN_COMMON}
use Rattle.elfobj_file.specs.declared.section_header.SectionHeader.{SectionHeader}
use Rattle.elfobj_file.specs.declared.symbol.Binding.TheVariants as binding
use Rattle.elfobj_file.specs.declared.symbol.Symbol.{Symbol}
use Rattle.elfobj_file.specs.declared.symbol.SymbolKind.TheVariants as kind
use Rattle.elfobj_file.specs.declared.symbol.SymbolPlace.{SymbolPlace}
use Rattle.elfobj_file.specs.declared.symbol.SymbolPlace.TheVariants as place
use Rattle.elfobj_file.specs.declared.symbol_entry.SymbolEntry.{SymbolEntry}

-- a symbol, with its name where it isn't local
pub record NamedSymbol : Type 0 where
  pub name : List ℕ
  pub symbol : Symbol

abbrev pub is_symbol_table : SectionHeader → Bool
is_symbol_table header = header.sh_type == SHT_SYMTAB

-- the number of the header of the symbol table, which is the only one (a second one is refused)
unfoldable pub symbol_table_number : List ℕ → Option ℕ
symbol_table_number bytes = position is_symbol_table (headers bytes)

-- that header
unfoldable pub symbol_table : List ℕ → Option SectionHeader
symbol_table bytes = find is_symbol_table (headers bytes)

abbrev pub entries_of : List ℕ → SectionHeader → List SymbolEntry
entries_of bytes table = symbol_entries_below bytes table.sh_offset (table.sh_size / 24)

-- the string table of a symbol table
abbrev pub strings_of : List ℕ → SectionHeader → List ℕ
strings_of bytes table = file_bytes bytes (header bytes table.sh_link)

abbrev pub symbol_place_of : ℕ → SymbolPlace
symbol_place_of index =
    if index == SHN_UNDEF then place.Undefined
    else (if index == SHN_ABS then place.Absolute
    else (if index == SHN_COMMON then place.Common
    else place.Section (record { 0 = index })))

unfoldable pub symbol_of : SymbolEntry → Symbol
symbol_of entry = record {
  binding = binding_of (st_bind entry);
  kind = symbol_kind_of (st_type entry);
  place = symbol_place_of entry.st_shndx;
  value = entry.st_value;
  size = entry.st_size;
}

-- names of local symbols are not looked at
abbrev pub symbol_name : List ℕ → SymbolEntry → List ℕ
symbol_name strings entry = if st_bind entry == STB_LOCAL then [] else unwrap_or (string_at strings entry.st_name) []

abbrev pub named_symbol : List ℕ → SymbolEntry → NamedSymbol
named_symbol strings entry = record { name = symbol_name strings entry; symbol = symbol_of entry }

-- entry number 0 is a null entry, whatever it says
abbrev pub null_symbol : NamedSymbol
null_symbol = record {
  name = [];
  symbol = record { binding = binding.Local; kind = kind.NoType; place = place.Undefined; value = 0; size = 0 };
}

abbrev pub symbols_from : List ℕ → List SymbolEntry → List NamedSymbol
symbols_from strings [] = []
symbols_from strings (first ∷ entries) = null_symbol ∷ map (named_symbol strings) entries

abbrev pub symbols_in : List ℕ → Option SectionHeader → List NamedSymbol
symbols_in bytes None = []
symbols_in bytes (Some table) = symbols_from (strings_of bytes table) (entries_of bytes table)

-- all entries of the symbol table, in its order; none without one
unfoldable pub symbols_of : List ℕ → List NamedSymbol
symbols_of bytes = symbols_in bytes (symbol_table bytes)
