-- Relocations (System V ABI, AMD64 supplement, "Relocation", table "Relocation Types"; little-endian fields: "Data
-- Representation"). S is the value of the symbol, A the addend, P the place: the address of the field.
use Rattle.std.specs.Prelude.{ℕ, ◌-◌, ◌%◌, ◌^◌, List, Result, Ok, Err, Bool, true, ◌&&◌, nat_lt, ℤ, pos, negsuc, neg_ℤ}
use Rattle.std.specs.Prelude.{◌+ℤ◌, ◌-ℤ◌, int_le, if◌then◌else◌}
use Rattle.std.specs.Int.{cast_signed, w64}
use Rattle.byteorder.specs.Endian.{little_bytes}
use Rattle.elfobj.specs.declared.relocation.Relocation.{Relocation}
use Rattle.elfobj.specs.declared.relocation.RelocationKind.{RelocationKind}
use Rattle.elfobj.specs.declared.relocation.RelocationKind.TheVariants.{None, Abs64, Pc32, Plt32, Abs32, Abs32Signed}
use Rattle.elfobj.specs.declared.relocation.RelocationKind.TheVariants.{Abs16, Pc16, Abs8, Pc8, Pc64}
use Rattle.elfobj.specs.RelocationKinds.{width}
use Rattle.emit_fields.specs.declared.field.Overflow.{Overflow}

-- the number below 2^64 that differs from an integer by a multiple of 2^64
abbrev pub modulo_64_bits : ℤ → ℕ
modulo_64_bits (pos n) = n % 2 ^ 64
modulo_64_bits (negsuc n) = 2 ^ 64 - 1 - n % 2 ^ 64

-- a number below 2^64 read as a signed one, in two's complement
abbrev pub signed : ℕ → ℤ
signed value = cast_signed w64 value

-- column "Calculation" of the table, as an integer; in a static link PLT32 counts from the symbol itself, as PC32 does.
-- NONE has none, and is never asked for
abbrev pub calculation : RelocationKind → ℤ → ℤ → ℤ → ℤ
calculation None s a p = pos 0
calculation Abs64 s a p = s +ℤ a
calculation Pc32 s a p = s +ℤ a -ℤ p
calculation Plt32 s a p = s +ℤ a -ℤ p
calculation Abs32 s a p = s +ℤ a
calculation Abs32Signed s a p = s +ℤ a
calculation Abs16 s a p = s +ℤ a
calculation Pc16 s a p = s +ℤ a -ℤ p
calculation Abs8 s a p = s +ℤ a
calculation Pc8 s a p = s +ℤ a -ℤ p
calculation Pc64 s a p = s +ℤ a -ℤ p

-- the value of a relocation, modulo 2^64
abbrev pub relocation_value : Relocation → ℕ → ℕ → ℕ
relocation_value relocation s p = modulo_64_bits (calculation relocation.kind (pos s) relocation.addend (pos p))

-- read as a signed number, it is not below the first nor above the second
abbrev pub is_between : ℤ → ℤ → ℕ → Bool
is_between low high value = int_le low (signed value) && int_le (signed value) high

-- whether a value is in its range. The psABI: 32 must zero-extend to the value, 32S sign-extend. It leaves the others
-- open; here PC32, PLT32, PC16 and PC8 sign-extend too, and 16 and 8 do one of the two
abbrev pub fits : RelocationKind → ℕ → Bool
fits None value = true
fits Abs64 value = true
fits Pc32 value = is_between (neg_ℤ (pos (2 ^ 31))) (pos (2 ^ 31 - 1)) value
fits Plt32 value = is_between (neg_ℤ (pos (2 ^ 31))) (pos (2 ^ 31 - 1)) value
fits Abs32 value = nat_lt value (2 ^ 32)
fits Abs32Signed value = is_between (neg_ℤ (pos (2 ^ 31))) (pos (2 ^ 31 - 1)) value
fits Abs16 value = is_between (neg_ℤ (pos (2 ^ 15))) (pos (2 ^ 16 - 1)) value
fits Pc16 value = is_between (neg_ℤ (pos (2 ^ 15))) (pos (2 ^ 15 - 1)) value
fits Abs8 value = is_between (neg_ℤ (pos (2 ^ 7))) (pos (2 ^ 8 - 1)) value
fits Pc8 value = is_between (neg_ℤ (pos (2 ^ 7))) (pos (2 ^ 7 - 1)) value
fits Pc64 value = true

-- the lowest bytes of a value, as many as the kind's width, the lowest first; or the value, where it is out of range
abbrev pub field_with : RelocationKind → ℕ → Result (List ℕ) Overflow
field_with kind value = if fits kind value then Ok (little_bytes (width kind) value) else Err (record { value = value })

-- the field of a relocation
unfoldable pub field_of : Relocation → ℕ → ℕ → Result (List ℕ) Overflow
field_of relocation s p = field_with relocation.kind (relocation_value relocation s p)
