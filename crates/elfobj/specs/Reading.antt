-- What the reader of the relocation sections has found so far.
use Rattle.std.specs.Prelude.{◌≡◌, ℕ, ◌<◌, List, length, get_or, find, Option, Some, None, Bool, ◌&&◌, ◌||◌}
use Rattle.std.specs.Prelude.{if◌then◌else◌, is_some, nat_le, slice_set}
use Rattle.elfobj_file.specs.ElfHeader.{e_shnum}
use Rattle.elfobj_file.specs.Relocations.{changes, relocation_section}
use Rattle.elfobj_file.specs.SectionHeaders.{headers_below}
use Rattle.elfobj_file.specs.Tables.{is_linked, is_wrong_table}
use Rattle.elfobj_file.specs.declared.section_header.SectionHeader.{SectionHeader}

-- at each section number the first of the first n headers that is that of a relocation section which changes it
pub record AreTablesBelow (bytes : List ℕ) (n : ℕ) (tables : List (Option SectionHeader)) : Type 0 where
  pub count : length tables ≡ e_shnum bytes
  pub each : (k : ℕ) → k < e_shnum bytes → get_or tables k None ≡ find (changes k) (headers_below bytes n)

-- at each section number the relocation section that changes it
pub record AreTables (bytes : List ℕ) (tables : List (Option SectionHeader)) : Type 0 where
  pub count : length tables ≡ e_shnum bytes
  pub each : (k : ℕ) → k < e_shnum bytes → get_or tables k None ≡ relocation_section bytes k

-- the same after one more relocation section
abbrev pub entered : List (Option SectionHeader) → SectionHeader → List (Option SectionHeader)
entered tables h = if is_some (get_or tables h.sh_info None) then tables else slice_set tables h.sh_info (Some h)

-- whether a relocation section is outside the profile, past those of the tables
abbrev pub is_wrong_after : List SectionHeader → Option ℕ → List (Option SectionHeader) → SectionHeader → Bool
is_wrong_after all symtab tables h =
    nat_le (length all) h.sh_info || (is_linked all h.sh_info
    && (is_some (get_or tables h.sh_info None) || is_wrong_table symtab h))
