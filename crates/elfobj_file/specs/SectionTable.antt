-- What the tests of the ELF header leave known of the section header table.
use Rattle.std.specs.Prelude.{ℕ, List, ◌≤◌, ◌<◌, ◌+◌, ◌*◌, length}
use Rattle.elfobj_file.specs.ElfHeader.{e_shoff, e_shnum, e_shstrndx}

-- the table lies within the bytes
abbrev pub IsTableWithin : List ℕ → Type 0
IsTableWithin bytes = e_shoff bytes + 64 * e_shnum bytes ≤ length bytes

-- there are headers, no more than numbers without the extension tell, and the one of the name table is among them
pub record IsCountRight (bytes : List ℕ) : Type 0 where
  pub some : 0 < e_shnum bytes
  pub few : e_shnum bytes ≤ 65279
  pub names : e_shstrndx bytes < e_shnum bytes

-- the section headers can be read
pub record HasSectionTable (bytes : List ℕ) : Type 0 where
  pub long : 64 ≤ length bytes
  pub within : IsTableWithin bytes
  pub count : IsCountRight bytes
