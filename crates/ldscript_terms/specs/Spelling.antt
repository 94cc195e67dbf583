-- How a word of a linker script spells a pattern (GNU ld manual, "Input Section Wildcard Patterns"; that a `-`
-- which begins or ends a set is itself, that an empty set and a `\` in a set spell nothing, is this project's choice).
use Rattle.std.specs.Prelude.{◌≡◌, ◌≢◌, ℕ, Bool, true, ◌&&◌, ◌||◌, ◌==◌, nat_le, List, [], ◌∷◌, ◌++◌, ◌⊎◌}
use Rattle.std.specs.List.{list_all}
use Rattle.ldscript_tokens.specs.Bytes.{is_escapable}
use Rattle.ldscript_terms.specs.Parts.{Part, AnyRun, AnyByte, Byte, OneOf, ranges_of}

-- A-Z a-z 0-9 _ . $ / -
abbrev pub is_plain : ℕ → Bool
is_plain byte =
    (nat_le 65 byte && nat_le byte 90) || (nat_le 97 byte && nat_le byte 122) || (nat_le 48 byte && nat_le byte 57)
    || (byte == 95) || (byte == 46) || (byte == 36) || (byte == 47) || (byte == 45)

-- those, and * ?
abbrev pub is_set_byte : ℕ → Bool
is_set_byte byte = is_plain byte || (byte == 42) || (byte == 63)

-- what stands between `[` and `]`: one or more bytes of a set
abbrev pub IsSetBody : List ℕ → Type 0
IsSetBody body = (body ≢ []) × (list_all is_set_byte body ≡ true)

-- `*`, `?`, a byte by itself or behind `\`, and a set between `[` and `]`
abbrev pub SpellsPart : Part → List ℕ → Type 0
SpellsPart AnyRun bytes = bytes ≡ 42 ∷ []
SpellsPart AnyByte bytes = bytes ≡ 63 ∷ []
SpellsPart (Byte byte) bytes =
    ((is_plain byte ≡ true) × (bytes ≡ byte ∷ [])) ⊎ ((is_escapable byte ≡ true) × (bytes ≡ 92 ∷ byte ∷ []))
SpellsPart (OneOf ranges) bytes =
    (body : List ℕ) × IsSetBody body × (ranges ≡ ranges_of body) × (bytes ≡ 91 ∷ (body ++ 93 ∷ []))

-- part by part, and nothing else
pub data SpellsPattern : List Part → List ℕ → Type 0 where
  nothing : SpellsPattern [] []
  part : {first : Part} {parts : List Part} {word : List ℕ} (bytes rest : List ℕ) → SpellsPart first bytes
      → word ≡ bytes ++ rest → SpellsPattern parts rest → SpellsPattern (first ∷ parts) word

-- a word spells this pattern and no other
pub record IsPatternOf (word : List ℕ) (parts : List Part) : Type 0 where
  pub spelled : SpellsPattern parts word
  pub only : (others : List Part) → SpellsPattern others word → others ≡ parts
