-- Entries of a relocation section (gABI, "Relocation", `Elf64_Rela`: 24 bytes each).
use Rattle.std.specs.Prelude.{ℕ, zero, suc, ◌+◌, ◌*◌, ◌/◌, ◌%◌, ◌^◌, List, [], ◌∷◌, ◌++◌}
use Rattle.elfobj_file.specs.Numbers.{u64_at, i64_at}
use Rattle.elfobj_file.specs.declared.relocation_entry.RelocationEntry.{RelocationEntry}

-- the entry whose 24 bytes begin at a place
abbrev pub relocation_entry_at : List ℕ → ℕ → RelocationEntry
relocation_entry_at bytes at = record {
  r_offset = u64_at bytes at;
  r_info = u64_at bytes (at + 8);
  r_addend = i64_at bytes (at + 16);
}

-- the first n entries of a table that begins at a place
abbrev pub relocation_entries_below : List ℕ → ℕ → ℕ → List RelocationEntry
relocation_entries_below bytes start zero = []
relocation_entries_below bytes start (suc n) =
    relocation_entries_below bytes start n ++ relocation_entry_at bytes (start + 24 * n) ∷ []

-- `ELF64_R_SYM` of r_info
abbrev pub r_sym : RelocationEntry → ℕ
r_sym entry = entry.r_info / 2 ^ 32

-- `ELF64_R_TYPE` of r_info
abbrev pub r_type : RelocationEntry → ℕ
r_type entry = entry.r_info % 2 ^ 32
