-- Entries of the symbol table (gABI, "Symbol Table", `Elf64_Sym`: 24 bytes each).
use Rattle.std.specs.Prelude.{ℕ, zero, suc, ◌+◌, ◌*◌, ◌/◌, ◌%◌, List, [], ◌∷◌, ◌++◌, slice_index}
use Rattle.elfobj_file.specs.Numbers.{u16_at, u32_at, u64_at}
use Rattle.elfobj_file.specs.declared.symbol_entry.SymbolEntry.{SymbolEntry}

-- the entry whose 24 bytes begin at a place
abbrev pub symbol_entry_at : List ℕ → ℕ → SymbolEntry
symbol_entry_at bytes at = record {
  st_name = u32_at bytes at;
  st_info = slice_index bytes (at + 4);
  st_shndx = u16_at bytes (at + 6);
  st_value = u64_at bytes (at + 8);
  st_size = u64_at bytes (at + 16);
}

-- the first n entries of a table that begins at a place
abbrev pub symbol_entries_below : List ℕ → ℕ → ℕ → List SymbolEntry
symbol_entries_below bytes start zero = []
symbol_entries_below bytes start (suc n) =
    symbol_entries_below bytes start n ++ symbol_entry_at bytes (start + 24 * n) ∷ []

-- `ELF64_ST_BIND` of st_info
abbrev pub st_bind : SymbolEntry → ℕ
st_bind entry = entry.st_info / 16

-- `ELF64_ST_TYPE` of st_info
abbrev pub st_type : SymbolEntry → ℕ
st_type entry = entry.st_info % 16
