-- Numbers in an ELF file: the lowest byte first (gABI, "Data Encoding", ELFDATA2LSB).
use Rattle.std.specs.Prelude.{ℕ, ℤ, List, drop}
use Rattle.std.specs.Int.{cast_signed, w64}
use Rattle.byteorder.specs.Endian.{little_number}

unfoldable pub u16_at : List ℕ → ℕ → ℕ
u16_at bytes at = little_number 2 (drop at bytes)

unfoldable pub u32_at : List ℕ → ℕ → ℕ
u32_at bytes at = little_number 4 (drop at bytes)

unfoldable pub u64_at : List ℕ → ℕ → ℕ
u64_at bytes at = little_number 8 (drop at bytes)

-- in two's complement
abbrev pub i64_at : List ℕ → ℕ → ℤ
i64_at bytes at = cast_signed w64 (u64_at bytes at)
