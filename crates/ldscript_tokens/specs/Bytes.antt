-- Kinds of bytes in a script, in ASCII.
use Rattle.std.specs.Prelude.{ℕ, Bool, ◌&&◌, ◌||◌, not, ◌==◌, nat_le, List, length, take_while}

abbrev pub is_letter : ℕ → Bool
is_letter byte = (nat_le 65 byte && nat_le byte 90) || (nat_le 97 byte && nat_le byte 122)

abbrev pub is_decimal_digit : ℕ → Bool
is_decimal_digit byte = nat_le 48 byte && nat_le byte 57

abbrev pub is_octal_digit : ℕ → Bool
is_octal_digit byte = nat_le 48 byte && nat_le byte 55

abbrev pub is_hex_digit : ℕ → Bool
is_hex_digit byte = is_decimal_digit byte || (nat_le 65 byte && nat_le byte 70) || (nat_le 97 byte && nat_le byte 102)

-- space, tab, line feed, carriage return
abbrev pub is_space : ℕ → Bool
is_space byte = (byte == 32) || (byte == 9) || (byte == 10) || (byte == 13)

-- A-Z a-z _ .
abbrev pub is_name_start : ℕ → Bool
is_name_start byte = is_letter byte || (byte == 95) || (byte == 46)

-- A-Z a-z 0-9 _ . $ -
abbrev pub is_name_byte : ℕ → Bool
is_name_byte byte = is_name_start byte || is_decimal_digit byte || (byte == 36) || (byte == 45)

-- A-Z a-z 0-9 _ . $ / * ? [ ] -
abbrev pub is_word_byte : ℕ → Bool
is_word_byte byte = is_name_byte byte || (byte == 47) || (byte == 42) || (byte == 63) || (byte == 91) || (byte == 93)

-- what may stand after a `\`: ! to ~
abbrev pub is_escapable : ℕ → Bool
is_escapable byte = nat_le 33 byte && nat_le byte 126

-- space to ~, but not the double quote
abbrev pub is_text_byte : ℕ → Bool
is_text_byte byte = nat_le 32 byte && nat_le byte 126 && not (byte == 34)

-- how many bytes at the front pass a test
abbrev pub run_length : (ℕ → Bool) → List ℕ → ℕ
run_length test bytes = length (take_while test bytes)
