-- The value of a NUMBER of a script.
use Rattle.std.specs.Prelude.{ℕ, ◌-◌, ◌*◌, ◌+◌, List, take, drop, slice_index, fold, ◌==◌, nat_le, if◌then◌else◌}
use Rattle.ldscript_tokens.specs.Bytes.{is_decimal_digit}
use Rattle.ldscript_tokens.specs.Tokens.{is_hex, digits_length}

-- 0 to 9, then A to F and a to f
abbrev pub digit_value : ℕ → ℕ
digit_value byte = if is_decimal_digit byte then byte - 48 else (if nat_le byte 70 then byte - 55 else byte - 87)

abbrev pub value_in : ℕ → List ℕ → ℕ
value_in base digits = fold (λ value digit. value * base + digit_value digit) 0 digits

-- K is times 2^10, M times 2^20
abbrev pub scale_of : ℕ → ℕ
scale_of byte = if byte == 75 then 1024 else (if byte == 77 then 1048576 else 1)

-- the value of a NUMBER as it is spelled
unfoldable pub number_value : List ℕ → ℕ
number_value spelled =
    let n = digits_length spelled in
    (if is_hex spelled then value_in 16 (take (n - 2) (drop 2 spelled))
    else (if slice_index spelled 0 == 48 then value_in 8 (take n spelled)
    else value_in 10 (take n spelled)))
    * scale_of (slice_index spelled n)
