-- What has changed in an image: ranges outside which it is, byte for byte, one that was answered before.
use Rattle.std.specs.Prelude.{◌≡◌, ◌⊎◌, ℕ, ◌+◌, ◌<◌, ◌≤◌, List, [], ◌∷◌, ◌++◌, length, take, drop, flat_map, slice_get}
use Rattle.std.specs.Prelude.{codes, decimal}
use Rattle.ldmodel.specs.Answers.{answer_line}
use Rattle.ldmodel_deferred.specs.declared.changes.ByteRange.{ByteRange}

-- each range lies within a number of bytes
abbrev pub AreWithin : ℕ → List ByteRange → Type 0
AreWithin most [] = Unit {0}
AreWithin most (range ∷ rest) = (range.offset + range.count ≤ most) × AreWithin most rest

-- a place lies in none of these ranges
abbrev pub IsOutside : ℕ → List ByteRange → Type 0
IsOutside at [] = Unit {0}
IsOutside at (range ∷ rest) = ((at < range.offset) ⊎ (range.offset + range.count ≤ at)) × IsOutside at rest

-- outside the ranges the image has the byte that `sent` has there
pub record AreChanges (sent image : List ℕ) (ranges : List ByteRange) : Type 0 where
  pub within : AreWithin (length image) ranges
  pub same : (at : ℕ) → at < length image → IsOutside at ranges → slice_get sent at ≡ slice_get image at

-- `OFFSET COUNT`
abbrev pub range_line : ByteRange → List ℕ
range_line range = decimal range.offset ++ 32 ∷ (decimal range.count ++ 10 ∷ [])

abbrev pub range_bytes : List ℕ → ByteRange → List ℕ
range_bytes image range = take range.count (drop range.offset image)

-- `changes LENGTH N`: the length of the image, and the number of ranges; a line for each range; and then the bytes of
-- each
unfoldable pub changes_answer : List ℕ → List ByteRange → List ℕ
changes_answer image ranges =
    answer_line (codes "changes") (length image) (length ranges)
    ++ (flat_map range_line ranges ++ flat_map (range_bytes image) ranges)
