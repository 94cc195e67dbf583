-- An image over an older one.
use Rattle.ldi_deferred.proofs.Common.{ByteRange, IsOutside, List, Some, [], ap, arith, cases_lt, drop, inl, inr}
use Rattle.ldi_deferred.proofs.Common.{length, refl, slice_get, slice_index_or, subst, suc, sym, take, zero, ℕ, ◌++◌}
use Rattle.ldi_deferred.proofs.Common.{◌+◌, ◌<◌, ◌∙◌, ◌∷◌, ◌≡◌, ◌≤◌, ◌⊎◌}

-- the ranges from one on
drop_next : (ranges : List ByteRange) (i : ℕ) (d : ByteRange) → i < length ranges
    → drop i ranges ≡ slice_index_or ranges i d ∷ drop (suc i) ranges
drop_next [] i d h = absurd (omega (arith, h))
drop_next (r ∷ rs) zero d h = refl
drop_next (r ∷ rs) (suc i) d h = drop_next rs i d (omega (arith, h))

-- where one more range is copied, the image is the new one outside of those that are left
pub copied_more : (sent new image : List ℕ) (ranges : List ByteRange) (i j : ℕ) (d : ByteRange) (n : ℕ)
    → i < length ranges → j ≡ suc i
    → ((at : ℕ) → at < n → IsOutside at (drop i ranges) → slice_get sent at ≡ slice_get image at)
    → ((at : ℕ) → (slice_index_or ranges i d).offset ≤ at
    → at < (slice_index_or ranges i d).offset + (slice_index_or ranges i d).count → at < n
    → slice_get new at ≡ slice_get image at)
    → ((at : ℕ) → (at < (slice_index_or ranges i d).offset)
    ⊎ ((slice_index_or ranges i d).offset + (slice_index_or ranges i d).count ≤ at)
    → slice_get new at ≡ slice_get sent at)
    → (at : ℕ) → at < n → IsOutside at (drop j ranges) → slice_get new at ≡ slice_get image at
copied_more sent new image ranges i j d n here next same inside outside at low out =
    elim (cases_lt at range.offset) [
      | inl before ↦ stays (inl before)
      | inr after ↦ elim (cases_lt at (range.offset + range.count)) [
        | inl within ↦ inside at after within low
        | inr past ↦ stays (inr past)
      ]
    ]
  where
    range : ByteRange
    range = slice_index_or ranges i d

    stays : (at < range.offset) ⊎ (range.offset + range.count ≤ at) → slice_get new at ≡ slice_get image at
    stays beside =
        outside at beside
        ∙ same at low (subst (IsOutside at) (sym (drop_next ranges i d here))
        (beside, subst (λ (k : ℕ). IsOutside at (drop k ranges)) next out))

-- no range is left
pub none_left : (ranges : List ByteRange) (i at : ℕ) → length ranges ≤ i → IsOutside at (drop i ranges)
none_left [] zero at h = tt
none_left [] (suc i) at h = tt
none_left (r ∷ rs) zero at h = absurd (omega (arith, h))
none_left (r ∷ rs) (suc i) at h = none_left rs i at (omega (arith, h))

-- what is cut off
pub get_cut : (xs : List ℕ) (n at : ℕ) → at < n → slice_get (take n xs) at ≡ slice_get xs at
get_cut [] zero at h = absurd (omega (arith, h))
get_cut [] (suc n) at h = refl
get_cut (x ∷ xs) zero at h = absurd (omega (arith, h))
get_cut (x ∷ xs) (suc n) zero h = refl
get_cut (x ∷ xs) (suc n) (suc at) h = get_cut xs n at (omega (arith, h))

-- a beginning of an image, and the rest of it
pub begun : (xs ys : List ℕ) (n : ℕ) → n ≡ length xs → length xs ≤ length ys
    → ((at : ℕ) → at < length xs → slice_get xs at ≡ slice_get ys at) → xs ++ drop n ys ≡ ys
begun xs ys n is within same = ap (λ (k : ℕ). xs ++ drop k ys) is ∙ all xs ys within same
  where
    all : (xs ys : List ℕ) → length xs ≤ length ys → ((at : ℕ) → at < length xs → slice_get xs at ≡ slice_get ys at)
        → xs ++ drop (length xs) ys ≡ ys
    all [] ys within same = refl
    all (x ∷ xs) [] within same = absurd (omega (arith, within))
    all (x ∷ xs) (y ∷ ys) within same =
        let first : Some x ≡ Some y = same zero (omega arith) in
        let head : x ≡ y = cc in
        ap (λ (z : ℕ). z ∷ (xs ++ drop (length xs) ys)) head
        ∙ ap (λ (zs : List ℕ). y ∷ zs)
        (all xs ys (omega (arith, within)) (λ at low. same (suc at) (omega (arith, low))))
