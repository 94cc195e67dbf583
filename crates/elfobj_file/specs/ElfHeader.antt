-- Fields of the ELF header, by their offsets in `Elf64_Ehdr` (gABI, "ELF Header").
use Rattle.std.specs.Prelude.{ℕ, List, slice_index}
use Rattle.elfobj_file.specs.Numbers.{u16_at, u32_at, u64_at}

-- byte i of the identification
abbrev pub e_ident : List ℕ → ℕ → ℕ
e_ident bytes i = slice_index bytes i

abbrev pub e_type : List ℕ → ℕ
e_type bytes = u16_at bytes 16

abbrev pub e_machine : List ℕ → ℕ
e_machine bytes = u16_at bytes 18

abbrev pub e_version : List ℕ → ℕ
e_version bytes = u32_at bytes 20

abbrev pub e_shoff : List ℕ → ℕ
e_shoff bytes = u64_at bytes 40

abbrev pub e_shentsize : List ℕ → ℕ
e_shentsize bytes = u16_at bytes 58

abbrev pub e_shnum : List ℕ → ℕ
e_shnum bytes = u16_at bytes 60

abbrev pub e_shstrndx : List ℕ → ℕ
e_shstrndx bytes = u16_at bytes 62
