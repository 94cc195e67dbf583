-- The parts of a name pattern of a linker script (GNU ld manual, "Input Section Wildcard Patterns").
use Rattle.std.specs.Prelude.{ℕ, Bool, ◌&&◌, ◌==◌, nat_le, List, [], ◌∷◌, if◌then◌else◌}
use Rattle.std.specs.List.{list_any}
use Rattle.ldscript_terms.specs.declared.set.ByteRange.{ByteRange}

-- any run of bytes, also an empty one; any one byte; this byte; one byte of a set
pub data Part : Type 0 where
  AnyRun : Part
  AnyByte : Part
  Byte : (byte : ℕ) → Part
  OneOf : (ranges : List ByteRange) → Part

abbrev pub range : ℕ → ℕ → ByteRange
range from to = record { from = from; to = to }

-- the bytes from one to another, with both ends; none where the second is below the first
abbrev pub is_in : ℕ → ByteRange → Bool
is_in byte range = nat_le range.from byte && nat_le byte range.to

abbrev pub is_in_any : ℕ → List ByteRange → Bool
is_in_any byte ranges = list_any (is_in byte) ranges

-- the ranges of a set, read from the left: `x-y` is a range, and any other byte is itself
abbrev pub ranges_of : List ℕ → List ByteRange
ranges_of [] = []
ranges_of (first ∷ []) = range first first ∷ []
ranges_of (first ∷ second ∷ []) = range first first ∷ range second second ∷ []
ranges_of (first ∷ second ∷ third ∷ bytes) =
    if second == 45 then range first third ∷ ranges_of bytes
    else range first first ∷ ranges_of (second ∷ third ∷ bytes)
