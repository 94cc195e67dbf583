-- Lines of the map text and of the fault text (this project's own format): words separated by one space, and a line
-- feed at the end.
use Rattle.std.specs.Prelude.{ℕ, zero, suc, ◌+◌, ◌/◌, ◌%◌, ◌^◌, List, [], ◌∷◌, ◌++◌, flat_map, nat_lt, if◌then◌else◌}

-- a word, and each further one after a space
abbrev pub spaced : List (List ℕ) → List ℕ
spaced [] = []
spaced (word ∷ rest) = word ++ flat_map (λ next. 32 ∷ next) rest

unfoldable pub line_of : List (List ℕ) → List ℕ
line_of words = spaced words ++ 10 ∷ []

-- `0` to `9` and `a` to `f`
abbrev pub hex_digit : ℕ → ℕ
hex_digit digit = if nat_lt digit 10 then 48 + digit else (87 + digit)

-- the lowest hex digits of a number, the highest of them first
abbrev pub hex_digits : ℕ → ℕ → List ℕ
hex_digits zero n = []
hex_digits (suc k) n = hex_digit (n / 16 ^ k % 16) ∷ hex_digits k n

-- an address, a size or a value: 16 hex digits
unfoldable pub hex : ℕ → List ℕ
hex n = hex_digits 16 n
