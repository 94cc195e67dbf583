-- The fill of an output section (GNU ld manual, "Output Section Fill"): `0x`, an even number of 2 to 16 hex digits, and
-- no suffix. Leading zeros count.
use Rattle.std.specs.Prelude.{ℕ, ◌+◌, ◌*◌, ◌/◌, zero, suc, List, [], ◌∷◌, ◌++◌, length, drop, slice_index, Option, Some}
use Rattle.std.specs.Prelude.{None, Bool, ◌&&◌, ◌||◌, ◌==◌, if◌then◌else◌}
use Rattle.ldscript_tokens.specs.Bytes.{is_hex_digit}
use Rattle.ldscript_tokens.specs.Numbers.{digit_value}

-- the byte that two hex digits spell
abbrev pub hex_pair : ℕ → ℕ → Option ℕ
hex_pair high low = if is_hex_digit high
    && is_hex_digit low then Some (16 * digit_value high + digit_value low) else None

abbrev pub with_byte : List ℕ → Option ℕ → Option (List ℕ)
with_byte bytes None = None
with_byte bytes (Some byte) = Some (bytes ++ byte ∷ [])

abbrev pub with_pair : Option (List ℕ) → Option ℕ → Option (List ℕ)
with_pair None pair = None
with_pair (Some bytes) pair = with_byte bytes pair

-- the bytes that the first pairs of digits spell, from left to right
abbrev pub hex_bytes : List ℕ → ℕ → Option (List ℕ)
hex_bytes digits zero = Some []
hex_bytes digits (suc n) = with_pair (hex_bytes digits n)
    (hex_pair (slice_index digits (2 * n)) (slice_index digits (2 * n + 1)))

abbrev pub is_even_to_16 : ℕ → Bool
is_even_to_16 n = (n == 2) || (n == 4) || (n == 6) || (n == 8) || (n == 10) || (n == 12) || (n == 14) || (n == 16)

abbrev pub has_fill_length : List ℕ → Bool
has_fill_length digits = is_even_to_16 (length digits)

unfoldable pub fill_of : List ℕ → Option (List ℕ)
fill_of spelled =
    if (slice_index spelled 0 == 48) && (slice_index spelled 1 == 120) && has_fill_length (drop 2 spelled)
    then hex_bytes (drop 2 spelled) (length (drop 2 spelled) / 2)
    else None
