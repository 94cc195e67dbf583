-- What has changed in an image.
use Rattle.ldi_deferred.proofs.Common.{AreWithin, ByteRange, IsOutside, List, Some, [], ap, arith, cases_lt, drop, inl}
use Rattle.ldi_deferred.proofs.Common.{inr, length, slice_get, suc, take, zero, ℕ, ◌++◌, ◌+◌, ◌<◌, ◌∷◌, ◌≡◌, ◌≤◌, ◌⊎◌}

-- lists with one part in the same place have the same elements there
pub same_at : (from n : ℕ) (xs ys : List ℕ) → from + n ≤ length xs → from + n ≤ length ys
    → take n (drop from xs) ≡ take n (drop from ys) → (at : ℕ) → from ≤ at → at < from + n
    → slice_get xs at ≡ slice_get ys at
same_at from n [] ys h k e at low high = absurd (omega (arith, h, low, high))
same_at from n (x ∷ xs) [] h k e at low high = absurd (omega (arith, k, low, high))
same_at zero zero (x ∷ xs) (y ∷ ys) h k e at low high = absurd (omega (arith, low, high))
same_at zero (suc n) (x ∷ xs) (y ∷ ys) h k e zero low high = let first : x ≡ y = cc in ap Some first
same_at zero (suc n) (x ∷ xs) (y ∷ ys) h k e (suc at) low high =
    let rest : take n xs ≡ take n ys = cc in
    same_at zero n xs ys (omega (arith, h)) (omega (arith, k)) rest at (omega arith) (omega (arith, high))
same_at (suc from) n (x ∷ xs) (y ∷ ys) h k e zero low high = absurd (omega (arith, low))
same_at (suc from) n (x ∷ xs) (y ∷ ys) h k e (suc at) low high =
    same_at from n xs ys (omega (arith, h)) (omega (arith, k)) e at (omega (arith, low)) (omega (arith, high))

-- two stretches, one after the other
pub joined : (P : ℕ → Type 0) (from mid end : ℕ) → ((at : ℕ) → from ≤ at → at < mid → P at)
    → ((at : ℕ) → mid ≤ at → at < end → P at) → (at : ℕ) → from ≤ at → at < end → P at
joined P from mid end first second at low high =
    elim (cases_lt at mid) [ inl before ↦ first at low before | inr after ↦ second at after high ]

-- one more range
pub within_more : (most : ℕ) (ranges : List ByteRange) (range : ByteRange) → AreWithin most ranges
    → range.offset + range.count ≤ most → AreWithin most (ranges ++ range ∷ [])
within_more most [] range h k = (k, tt)
within_more most (first ∷ rest) range h k = (h.0, within_more most rest range h.1 k)

pub outside_more : (at : ℕ) (ranges : List ByteRange) (range : ByteRange) → IsOutside at (ranges ++ range ∷ [])
    → IsOutside at ranges × ((at < range.offset) ⊎ (range.offset + range.count ≤ at))
outside_more at [] range h = (tt, h.0)
outside_more at (first ∷ rest) range h = let more = outside_more at rest range h.1 in ((h.0, more.0), more.1)

-- where the image is the same before a range and from its end to a place, it is so outside of all ranges
pub same_more : (P : ℕ → Type 0) (ranges : List ByteRange) (range : ByteRange) (end : ℕ)
    → ((at : ℕ) → at < range.offset → IsOutside at ranges → P at)
    → ((at : ℕ) → range.offset + range.count ≤ at → at < end → P at)
    → (at : ℕ) → at < end → IsOutside at (ranges ++ range ∷ []) → P at
same_more P ranges range end before after at low outside =
    let parts = outside_more at ranges range outside in
    elim parts.1 [ inl first ↦ before at first parts.0 | inr second ↦ after at second low ]

-- the range of all bytes
pub all_within : (image : List ℕ) (range : ByteRange) → range.offset ≡ 0 → range.count ≡ length image
    → AreWithin (length image) (range ∷ [])
all_within image range start count = (omega (arith, start, count), tt)

pub none_outside : (image : List ℕ) (range : ByteRange) → range.offset ≡ 0 → range.count ≡ length image → (at : ℕ)
    → at < length image → IsOutside at (range ∷ []) → ⊥
none_outside image range start count at low outside =
    elim outside.0 [
      | inl before ↦ omega (arith, start, before)
      | inr after ↦ omega (arith, start, count, after, low)
    ]
