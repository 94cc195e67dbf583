-- The part that a word begins with, computed from its first bytes.
use Rattle.std.specs.Prelude.{ℕ, ◌+◌, ◌≤◌, ◌<◌, ◌&&◌, ◌==◌, nat_lt, List, length, drop, take_while, slice_index}
use Rattle.std.specs.Prelude.{slice_range, Option, Some, None, if◌then◌else◌}
use Rattle.ldscript_terms.specs.Parts.{Part, AnyRun, AnyByte, Byte, OneOf, ranges_of}
use Rattle.ldscript_terms.specs.CodeTerms.{part_of, IsInText}
use Rattle.ldscript_terms.specs.Spelling.{is_plain, is_set_byte}
use Rattle.ldscript_tokens.specs.Bytes.{is_escapable}
use Rattle.ldscript_terms.specs.declared.front.Spelled.{Spelled}

-- a part, and how many bytes spell it
pub record Front : Type 0 where
  pub part : Part
  pub count : ℕ

abbrev pub front_part : Part → ℕ → Option Front
front_part p n = Some (record { part = p; count = n })

-- `\` and the byte behind it
unfoldable pub escape_front : List ℕ → Option Front
escape_front word = if is_escapable (slice_index word 1) then front_part (Byte (slice_index word 1)) 2 else None

-- how many bytes of a set stand behind `[`
abbrev pub set_length : List ℕ → ℕ
set_length word = length (take_while is_set_byte (drop 1 word))

-- `[`, one or more bytes of a set, and `]`
unfoldable pub set_front : List ℕ → Option Front
set_front word =
    if nat_lt 0 (set_length word) && (slice_index word (1 + set_length word) == 93)
    then front_part (OneOf (ranges_of (slice_range word 1 (1 + set_length word)))) (2 + set_length word)
    else None

-- by the first byte
unfoldable pub front : List ℕ → Option Front
front word =
    if slice_index word 0 == 42 then front_part AnyRun 1
    else (if slice_index word 0 == 63 then front_part AnyByte 1
    else (if slice_index word 0 == 92 then escape_front word
    else (if slice_index word 0 == 91 then set_front word
    else (if is_plain (slice_index word 0) then front_part (Byte (slice_index word 0)) 1
    else None))))

-- a part as the program has it, which lies at the front of the word
abbrev pub front_of : List ℕ → Option Spelled → Option Front
front_of word None = None
front_of word (Some s) = front_part (part_of word s.part) s.count

-- it takes a byte or more of this number of bytes
abbrev pub IsWithin : ℕ → Option Spelled → Type 0
IsWithin room None = Unit {0}
IsWithin room (Some s) = (0 < s.count) × (s.count ≤ room) × IsInText room s.part
