-- Relocations of a section (x86-64 psABI, "Relocation Types").
use Rattle.std.specs.Prelude.{ℕ, ◌+◌, ◌/◌, List, [], ◌∷◌, map, find, Option, Some, None, Bool, false, ◌&&◌, ◌||◌, ◌==◌}
use Rattle.std.specs.Prelude.{nat_lt, min, max, unwrap_or}
use Rattle.std.specs.List.{list_any}
use Rattle.elfobj_file.specs.RelocationKinds.{relocation_kind, width}
use Rattle.elfobj_file.specs.SectionHeaders.{headers}
use Rattle.elfobj_file.specs.RelocationEntries.{relocation_entries_below, r_sym, r_type}
use Rattle.elfobj_file.specs.declared.constants.TheConstants.{SHT_RELA, SHT_REL}
use Rattle.elfobj_file.specs.declared.relocation.Relocation.{Relocation}
use Rattle.elfobj_file.specs.declared.relocation.RelocationKind.TheVariants as kind
use Rattle.elfobj_file.specs.declared.relocation_entry.RelocationEntry.{RelocationEntry}
use Rattle.elfobj_file.specs.declared.section_header.SectionHeader.{SectionHeader}

-- an entry of a type outside the profile, which is refused, counts as NONE
unfoldable pub relocation_of : RelocationEntry → Relocation
relocation_of entry = record {
  offset = entry.r_offset;
  symbol = record { 0 = r_sym entry };
  kind = unwrap_or (relocation_kind (r_type entry)) kind.None;
  addend = entry.r_addend;
}

abbrev pub is_relocation_section : SectionHeader → Bool
is_relocation_section header = (header.sh_type == SHT_RELA) || (header.sh_type == SHT_REL)

-- whether it is a relocation section that changes section number k
abbrev pub changes : ℕ → SectionHeader → Bool
changes index header = is_relocation_section header && (header.sh_info == index)

-- the relocation section that changes section number k, which is the only one for a linked section (a second
-- one is refused)
unfoldable pub relocation_section : List ℕ → ℕ → Option SectionHeader
relocation_section bytes index = find (changes index) (headers bytes)

abbrev pub entries_in : List ℕ → Option SectionHeader → List RelocationEntry
entries_in bytes None = []
entries_in bytes (Some table) = relocation_entries_below bytes table.sh_offset (table.sh_size / 24)

-- the entries that change section number k, in the order of their table
abbrev pub relocation_entries : List ℕ → ℕ → List RelocationEntry
relocation_entries bytes index = entries_in bytes (relocation_section bytes index)

abbrev pub relocations_at : List ℕ → ℕ → List Relocation
relocations_at bytes index = map relocation_of (relocation_entries bytes index)

-- where the bytes that a relocation changes end in its section
abbrev pub field_end : Relocation → ℕ
field_end relocation = relocation.offset + width relocation.kind

-- whether some byte lies in both fields
abbrev pub meets : Relocation → Relocation → Bool
meets one other = nat_lt (max one.offset other.offset) (min (field_end one) (field_end other))

-- whether two of these share a byte
unfoldable pub share_bytes : List Relocation → Bool
share_bytes [] = false
share_bytes (relocation ∷ rest) = list_any (meets relocation) rest || share_bytes rest
