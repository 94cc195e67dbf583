-- When the symbol table or a relocation section is outside the profile: the gABI's rules, and this linker's own
-- limits.
use Rattle.std.specs.Prelude.{ℕ, zero, suc, ◌/◌, ◌%◌, List, length, drop, map, Option, Bool, true, false, not, ◌&&◌}
use Rattle.std.specs.Prelude.{◌||◌, ◌==◌, nat_lt, nat_le, is_some, is_none, find, count_by, slice_get}
use Rattle.std.specs.List.{list_all, list_any, slice_range}
use Rattle.std.specs.Int.{is_power_of_two}
use Rattle.std.specs.Option.{option_map_or}
use Rattle.elfobj_file.specs.ElfHeader.{e_shnum}
use Rattle.elfobj_file.specs.SectionHeaders.{header, headers, headers_below}
use Rattle.elfobj_file.specs.LinkedKinds.{linked_kind}
use Rattle.elfobj_file.specs.Names.{string_at, is_name}
use Rattle.elfobj_file.specs.SymbolEntries.{st_bind, st_type}
use Rattle.elfobj_file.specs.Symbols.{is_symbol_table, symbol_table_number, symbol_table, entries_of, strings_of}
use Rattle.elfobj_file.specs.Symbols.{symbols_of}
use Rattle.elfobj_file.specs.RelocationEntries.{r_sym, r_type}
use Rattle.elfobj_file.specs.RelocationKinds.{relocation_kind}
use Rattle.elfobj_file.specs.Relocations.{is_relocation_section, changes, relocation_entries, relocations_at}
use Rattle.elfobj_file.specs.Relocations.{share_bytes}
use Rattle.elfobj_file.specs.Relocations.{field_end}
use Rattle.elfobj_file.specs.Sections.{section_of, sections_of}
use Rattle.elfobj_file.specs.declared.constants.TheConstants.{SHT_STRTAB, SHT_REL, STB_LOCAL, STB_GLOBAL, STB_WEAK}
use Rattle.elfobj_file.specs.declared.constants.TheConstants.{STT_SECTION, STT_FILE, STT_COMMON, SHN_UNDEF, SHN_ABS}
use Rattle.elfobj_file.specs.declared.constants.TheConstants.{SHN_COMMON, MAX_SECTION_SIZE}
use Rattle.elfobj_file.specs.declared.relocation.Relocation.{Relocation}
use Rattle.elfobj_file.specs.declared.relocation_entry.RelocationEntry.{RelocationEntry}
use Rattle.elfobj_file.specs.declared.section.Section.{Section}
use Rattle.elfobj_file.specs.declared.section.SectionKind.{SectionKind}
use Rattle.elfobj_file.specs.declared.section.SectionKind.TheVariants.{Nobits}
use Rattle.elfobj_file.specs.declared.section_header.SectionHeader.{SectionHeader}
use Rattle.elfobj_file.specs.declared.symbol_entry.SymbolEntry.{SymbolEntry}

-- the number of a header of type STRTAB
abbrev pub is_string_table : List SectionHeader → ℕ → Bool
is_string_table all index = option_map_or (λ header. header.sh_type == SHT_STRTAB) (slice_get all index) false

-- with entries of another size than 24, not a whole number of them or none, no string table, or a number of the first
-- non-local entry that is not from 1 to the number of entries
abbrev pub has_wrong_header : List SectionHeader → SectionHeader → Bool
has_wrong_header all table =
    (not (table.sh_entsize == 24)) || (table.sh_size == 0) || (not (table.sh_size % 24 == 0))
    || (not (is_string_table all table.sh_link)) || (table.sh_info == 0) || nat_lt (table.sh_size / 24) table.sh_info

abbrev pub is_local_entry : SymbolEntry → Bool
is_local_entry entry = st_bind entry == STB_LOCAL

abbrev pub is_not_local : SymbolEntry → Bool
is_not_local entry = not (is_local_entry entry)

-- of the entries from 1 on, one below sh_info is not local, or one from sh_info on is
abbrev pub has_misplaced_entry : SectionHeader → List SymbolEntry → Bool
has_misplaced_entry table entries =
    (not (list_all is_local_entry (slice_range entries 1 table.sh_info)))
    || list_any is_local_entry (drop table.sh_info entries)

abbrev pub is_wrong_symbol_table : List ℕ → SectionHeader → Bool
is_wrong_symbol_table bytes table =
    has_wrong_header (headers bytes) table || has_misplaced_entry table (entries_of bytes table)

unfoldable pub has_wrong_symbol_table : List ℕ → Bool
has_wrong_symbol_table bytes =
    nat_lt 1 (count_by is_symbol_table (headers bytes))
    || option_map_or (is_wrong_symbol_table bytes) (symbol_table bytes) false

-- a section number that is neither one of n sections nor ABS nor COMMON
abbrev pub is_nowhere : ℕ → SymbolEntry → Bool
is_nowhere n entry =
    (not (nat_lt entry.st_shndx n)) && (not (entry.st_shndx == SHN_ABS)) && (not (entry.st_shndx == SHN_COMMON))

-- a local symbol at UNDEF or COMMON
abbrev pub is_wrong_local : SymbolEntry → Bool
is_wrong_local entry = is_local_entry entry && ((entry.st_shndx == SHN_UNDEF) || (entry.st_shndx == SHN_COMMON))

-- a symbol that isn't local: of type section or file, or with a name without an end in the string table or outside the
-- limits
abbrev pub is_wrong_non_local : List ℕ → SymbolEntry → Bool
is_wrong_non_local strings entry =
    is_not_local entry
    && ((st_type entry == STT_SECTION) || (st_type entry == STT_FILE)
    || (not (option_map_or is_name (string_at strings entry.st_name) false)))

-- not global, or with an alignment that is no power of two, or too large
abbrev pub is_wrong_common : SymbolEntry → Bool
is_wrong_common entry =
    (entry.st_shndx == SHN_COMMON)
    && ((not (st_bind entry == STB_GLOBAL)) || (not (is_power_of_two entry.st_value))
    || nat_lt MAX_SECTION_SIZE entry.st_size)

-- among n sections, with names in a table of strings
abbrev pub is_wrong_symbol : ℕ → List ℕ → SymbolEntry → Bool
is_wrong_symbol n strings entry =
    nat_lt STB_WEAK (st_bind entry) || nat_lt STT_COMMON (st_type entry) || is_nowhere n entry || is_wrong_local entry
    || is_wrong_non_local strings entry || is_wrong_common entry

abbrev pub has_wrong_entry : List ℕ → SectionHeader → Bool
has_wrong_entry bytes table = list_any (is_wrong_symbol (e_shnum bytes) (strings_of bytes table))
    (drop 1 (entries_of bytes table))

unfoldable pub has_wrong_symbol : List ℕ → Bool
has_wrong_symbol bytes = option_map_or (has_wrong_entry bytes) (symbol_table bytes) false

-- the number of the header of a linked section
abbrev pub is_linked : List SectionHeader → ℕ → Bool
is_linked all index = option_map_or (λ header. is_some (linked_kind header)) (slice_get all index) false

-- without addends, or with entries of another size than 24 or not a whole number of them, or not of the object's symbol
-- table (always, if it has none)
abbrev pub is_wrong_table : Option ℕ → SectionHeader → Bool
is_wrong_table symtab header =
    (header.sh_type == SHT_REL) || (not (header.sh_entsize == 24)) || (not (header.sh_size % 24 == 0))
    || (not (option_map_or (λ index. header.sh_link == index) symtab false))

-- a relocation section whose sh_info is no header's number, or that changes a linked section in a way outside the
-- profile; `others` are the headers before its own
abbrev pub is_wrong_relocation_section : List SectionHeader → Option ℕ → List SectionHeader → SectionHeader → Bool
is_wrong_relocation_section all symtab others header =
    is_relocation_section header
    && (nat_le (length all) header.sh_info
    || (is_linked all header.sh_info
    && (is_some (find (changes header.sh_info) others) || is_wrong_table symtab header)))

-- one of the first n headers is that of a wrong relocation section
abbrev pub is_wrong_below : List ℕ → ℕ → Bool
is_wrong_below bytes zero = false
is_wrong_below bytes (suc n) =
    is_wrong_below bytes n || is_wrong_relocation_section (headers bytes) (symbol_table_number bytes)
    (headers_below bytes n) (header bytes n)

-- the linked sections as callers see them
abbrev pub linked_sections : List ℕ → List Section
linked_sections bytes = map section_of (sections_of bytes)

-- a symbol that is not one of n
abbrev pub names_no_symbol : ℕ → RelocationEntry → Bool
names_no_symbol n entry = nat_le n (r_sym entry)

abbrev pub has_strange_symbol : List ℕ → ℕ → Section → Bool
has_strange_symbol bytes n section = list_any (names_no_symbol n) (relocation_entries bytes section.number.0)

unfoldable pub has_wrong_relocation_section : List ℕ → Bool
has_wrong_relocation_section bytes =
    is_wrong_below bytes (e_shnum bytes)
    || list_any (has_strange_symbol bytes (length (symbols_of bytes))) (linked_sections bytes)

abbrev pub is_strange_type : RelocationEntry → Bool
is_strange_type entry = is_none (relocation_kind (r_type entry))

abbrev pub has_strange_type : List ℕ → Section → Bool
has_strange_type bytes section = list_any is_strange_type (relocation_entries bytes section.number.0)

unfoldable pub has_wrong_type : List ℕ → Bool
has_wrong_type bytes = list_any (has_strange_type bytes) (linked_sections bytes)

-- past the end of a section, or in one that has no bytes in the file (NOBITS)
abbrev pub is_outside : SectionKind → ℕ → Relocation → Bool
is_outside Nobits size relocation = true
is_outside _ size relocation = nat_lt size (field_end relocation)

abbrev pub has_field_outside : List ℕ → Section → Bool
has_field_outside bytes section =
    list_any (is_outside section.kind section.size) (relocations_at bytes section.number.0)

unfoldable pub has_wrong_bounds : List ℕ → Bool
has_wrong_bounds bytes = list_any (has_field_outside bytes) (linked_sections bytes)

abbrev pub has_shared_bytes : List ℕ → Section → Bool
has_shared_bytes bytes section = share_bytes (relocations_at bytes section.number.0)

unfoldable pub has_overlap : List ℕ → Bool
has_overlap bytes = list_any (has_shared_bytes bytes) (linked_sections bytes)
