-- The section header table (gABI, "Section Header", `Elf64_Shdr`: 64 bytes each).
use Rattle.std.specs.Prelude.{ℕ, zero, suc, ◌+◌, ◌*◌, List, [], ◌∷◌, ◌++◌}
use Rattle.std.specs.List.{slice_range}
use Rattle.elfobj_file.specs.Numbers.{u32_at, u64_at}
use Rattle.elfobj_file.specs.ElfHeader.{e_shoff, e_shnum}
use Rattle.elfobj_file.specs.declared.section_header.SectionHeader.{SectionHeader}

-- the header whose 64 bytes begin at a place
abbrev pub header_at : List ℕ → ℕ → SectionHeader
header_at bytes at = record {
  sh_name = u32_at bytes at;
  sh_type = u32_at bytes (at + 4);
  sh_flags = u64_at bytes (at + 8);
  sh_offset = u64_at bytes (at + 24);
  sh_size = u64_at bytes (at + 32);
  sh_link = u32_at bytes (at + 40);
  sh_info = u32_at bytes (at + 44);
  sh_addralign = u64_at bytes (at + 48);
  sh_entsize = u64_at bytes (at + 56);
}

-- a header of type NULL
abbrev pub null_header : SectionHeader
null_header = record {
  sh_name = 0;
  sh_type = 0;
  sh_flags = 0;
  sh_offset = 0;
  sh_size = 0;
  sh_link = 0;
  sh_info = 0;
  sh_addralign = 0;
  sh_entsize = 0;
}

-- header number k; number 0 counts as type NULL, whatever it says
unfoldable pub header : List ℕ → ℕ → SectionHeader
header bytes zero = null_header
header bytes (suc index) = header_at bytes (e_shoff bytes + 64 * suc index)

-- the first n headers
abbrev pub headers_below : List ℕ → ℕ → List SectionHeader
headers_below bytes zero = []
headers_below bytes (suc n) = headers_below bytes n ++ header bytes n ∷ []

-- the whole table
unfoldable pub headers : List ℕ → List SectionHeader
headers bytes = headers_below bytes (e_shnum bytes)

-- the bytes that a header names
abbrev pub file_bytes : List ℕ → SectionHeader → List ℕ
file_bytes bytes header = slice_range bytes header.sh_offset (header.sh_offset + header.sh_size)
