-- When bytes are no object of the profile: the gABI's rules for a relocatable ELF-64 object of x86-64, and
-- this linker's own limits. Offsets and sizes are whole numbers, so no sum wraps.
use Rattle.std.specs.Prelude.{ℕ, ◌+◌, ◌*◌, List, [], ◌∷◌, ◌++◌, length, find, Option, Bool, false, not, ◌&&◌, ◌||◌}
use Rattle.std.specs.Prelude.{◌==◌, nat_lt, nat_le, is_some, bit_or}
use Rattle.std.specs.List.{list_any}
use Rattle.std.specs.Int.{is_power_of_two}
use Rattle.std.specs.Option.{option_map_or}
use Rattle.elfobj_file.specs.ElfHeader.{e_ident, e_type, e_machine, e_version, e_shoff, e_shentsize, e_shnum}
use Rattle.elfobj_file.specs.ElfHeader.{e_shstrndx}
use Rattle.elfobj_file.specs.SectionHeaders.{header, headers}
use Rattle.elfobj_file.specs.Names.{string_at, is_name}
use Rattle.elfobj_file.specs.SectionKinds.{kind_of}
use Rattle.elfobj_file.specs.LinkedKinds.{is_alloc}
use Rattle.elfobj_file.specs.Sections.{name_table}
use Rattle.elfobj_file.specs.Tables.{has_wrong_symbol_table, has_wrong_symbol, has_wrong_relocation_section}
use Rattle.elfobj_file.specs.Tables.{has_wrong_type}
use Rattle.elfobj_file.specs.Tables.{has_wrong_bounds, has_overlap}
use Rattle.elfobj_file.specs.declared.section_header.SectionHeader.{SectionHeader}
use Rattle.elfobj_file.specs.declared.constants.TheConstants.{ELFCLASS64, ELFDATA2LSB, EV_CURRENT, ET_REL, EM_X86_64}
use Rattle.elfobj_file.specs.declared.constants.TheConstants.{MAX_SECTION_HEADERS, SHT_NULL, SHT_STRTAB, SHT_NOBITS}
use Rattle.elfobj_file.specs.declared.constants.TheConstants.{PROFILE_FLAGS, MAX_SECTION_SIZE}
use Rattle.elfobj_file.specs.declared.refusal.ObjectRefusal.{ObjectRefusal}
use Rattle.elfobj_file.specs.declared.refusal.ObjectRefusal.TheVariants.{Short, NotElf, Machine, SectionTable}
use Rattle.elfobj_file.specs.declared.refusal.ObjectRefusal.TheVariants.{SectionCount}
use Rattle.elfobj_file.specs.declared.refusal.ObjectRefusal.TheVariants.{SectionBounds, SectionProfile, SymbolTable}
use Rattle.elfobj_file.specs.declared.refusal.ObjectRefusal.TheVariants.{Symbol}
use Rattle.elfobj_file.specs.declared.refusal.ObjectRefusal.TheVariants.{RelocationSection, RelocationType, FieldBounds}
use Rattle.elfobj_file.specs.declared.refusal.ObjectRefusal.TheVariants.{FieldOverlap, NoMemory}

-- headers of type NULL are not looked at
abbrev pub is_looked_at : SectionHeader → Bool
is_looked_at header = not (header.sh_type == SHT_NULL)

-- outside a file of n bytes, or too large, or with an alignment that is neither 0 nor a power of two
abbrev pub is_out_of_bounds : ℕ → SectionHeader → Bool
is_out_of_bounds n header =
    is_looked_at header
    && (((not (header.sh_type == SHT_NOBITS)) && nat_lt n (header.sh_offset + header.sh_size))
    || nat_lt MAX_SECTION_SIZE header.sh_size
    || ((not (header.sh_addralign == 0)) && (not (is_power_of_two header.sh_addralign))))

-- allocated, with a type that isn't linked, a flag outside the profile, or a name without an end in the table
-- of names or outside the limits
abbrev pub is_outside_profile_by : List ℕ → SectionHeader → Bool
is_outside_profile_by table header =
    is_looked_at header && is_alloc header
    && ((not (is_some (kind_of header.sh_type)))
    || (not (bit_or header.sh_flags PROFILE_FLAGS == PROFILE_FLAGS))
    || (not (option_map_or is_name (string_at table header.sh_name) false)))

abbrev pub is_outside_profile : List ℕ → SectionHeader → Bool
is_outside_profile bytes header = is_outside_profile_by (name_table bytes) header

-- the condition of each refusal, and above it what bytes have that are not refused so
unfoldable pub holds : List ℕ → ObjectRefusal → Bool
-- the 64 bytes of an ELF header
holds bytes Short = nat_lt (length bytes) 64
-- the magic number
holds bytes NotElf = not ((e_ident bytes 0 == 0x7F) && (e_ident bytes 1 == 0x45) && (e_ident bytes 2 == 0x4C)
    && (e_ident bytes 3 == 0x46))
-- 64 bits, little-endian, version 1; relocatable, x86-64, version 1
holds bytes Machine =
    not ((e_ident bytes 4 == ELFCLASS64) && (e_ident bytes 5 == ELFDATA2LSB) && (e_ident bytes 6 == EV_CURRENT)
    && (e_type bytes == ET_REL) && (e_machine bytes == EM_X86_64) && (e_version bytes == EV_CURRENT))
-- section headers of 64 bytes, all of them in the file
holds bytes SectionTable = not (e_shentsize bytes == 64) || nat_lt (length bytes) (e_shoff bytes + 64 * e_shnum bytes)
-- 1 to 65,279 section headers, and that of the table of names is one of them
holds bytes SectionCount = (e_shnum bytes == 0) || nat_lt MAX_SECTION_HEADERS (e_shnum bytes)
    || nat_le (e_shnum bytes) (e_shstrndx bytes)
-- a string table as table of names; and each section, if not of type NULL, has its bytes in the file, where it has any
-- there, 2^31 bytes at most, and the alignment 0 or a power of two
holds bytes SectionBounds =
    not ((header bytes (e_shstrndx bytes)).sh_type == SHT_STRTAB)
    || list_any (is_out_of_bounds (length bytes)) (headers bytes)
-- each allocated section has a type that is linked, no flags but those of the profile, and a name within the limits
holds bytes SectionProfile = list_any (is_outside_profile bytes) (headers bytes)
-- one symbol table at most: whole entries of 24 bytes, one or more, with a string table, and from entry 1 on first all
-- that are local, up to sh_info, and then all others
holds bytes SymbolTable = has_wrong_symbol_table bytes
-- each symbol from entry 1 on is local, global or weak, of type 0 to 5, and UNDEF, ABS, COMMON or in a section of the
-- file. A local one is neither UNDEF nor COMMON; any other has a name within the limits, and is of neither type SECTION
-- nor FILE; a common one is global, has a power of two as its alignment, and 2^31 bytes at most
holds bytes Symbol = has_wrong_symbol bytes
-- each relocation section is for a section of the file; and for a linked section there is one at most: RELA, whole
-- entries of 24 bytes, with the symbol table of the object, whose symbols they name
holds bytes RelocationSection = has_wrong_relocation_section bytes
-- each relocation of a linked section is of a type of the profile
holds bytes RelocationType = has_wrong_type bytes
-- its field ends in its section, which has bytes in the file
holds bytes FieldBounds = has_wrong_bounds bytes
-- and shares no byte with another field
holds bytes FieldOverlap = has_overlap bytes
-- no bytes are refused so: memory has run out
holds bytes (NoMemory _) = false

-- those that the ELF header alone gives
abbrev pub header_refusals : List ObjectRefusal
header_refusals = Short ∷ NotElf ∷ Machine ∷ SectionTable ∷ SectionCount ∷ []

-- those that the section headers give
abbrev pub section_refusals : List ObjectRefusal
section_refusals = SectionBounds ∷ SectionProfile ∷ []

-- those that the symbol table gives
abbrev pub symbol_refusals : List ObjectRefusal
symbol_refusals = SymbolTable ∷ Symbol ∷ []

-- those that entries of relocation sections give, each by itself
abbrev pub entry_refusals : List ObjectRefusal
entry_refusals = RelocationSection ∷ RelocationType ∷ FieldBounds ∷ []

-- those that the relocation sections give
abbrev pub relocation_refusals : List ObjectRefusal
relocation_refusals = RelocationSection ∷ RelocationType ∷ FieldBounds ∷ FieldOverlap ∷ []

-- in the order of their numbers
abbrev pub refusals : List ObjectRefusal
refusals = header_refusals ++ section_refusals ++ symbol_refusals ++ relocation_refusals

-- the lowest whose condition holds
unfoldable pub object_refusal : List ℕ → Option ObjectRefusal
object_refusal bytes = find (holds bytes) refusals
