-- Objects whose sections have different numbers.
use Rattle.place.proofs.Common.{All, AllPairs, Each, EachLater, LinkedSection, List, Section, [], arith, false, get_or}
use Rattle.place.proofs.Common.{length, map, ne_eqb, section_of, subst, suc, take, zero, ℕ, ◌<◌, ◌==◌, ◌∷◌, ◌≡◌}
use Rattle.std.proofs.lemmas.List.Elements.{All-head, All-tail}

-- the first of ascending numbers is below the others
above : (n : ℕ) (xs : List LinkedSection) → All (λ (s : Section). n < s.number.0) (map section_of xs)
    → Each (λ (y : LinkedSection). (n == y.number.0) ≡ false) xs
above n [] h = tt
above n (x ∷ xs) h =
    let low : n < x.number.0 = All-head (λ (s : Section). n < s.number.0) (section_of x) (map section_of xs) h in (
      ne_eqb n x.number.0 (λ e. absurd (omega (arith, low, e))),
      above n xs (All-tail (λ (s : Section). n < s.number.0) (section_of x) (map section_of xs) h),
    )

-- sections in the order of their numbers have different ones
pub numbers_differ : (xs : List LinkedSection)
    → AllPairs (λ (s t : Section). s.number.0 < t.number.0) (map section_of xs)
    → EachLater (λ (x y : LinkedSection). (x.number.0 == y.number.0) ≡ false) xs
numbers_differ [] up = tt
numbers_differ (x ∷ xs) up = (
  above x.number.0 xs (λ k d low. up zero (suc k) d (omega arith) (omega (arith, low))),
  numbers_differ xs (λ i j d before short. up (suc i) (suc j) d (omega (arith, before)) (omega (arith, short))),
)

-- one more of the first members of a list
pub each_more : {X : Type 0} (P : X → Type 0) (xs : List X) (n : ℕ) (x : X) → n < length xs → x ≡ get_or xs n x
    → Each P (take n xs) → P x → Each P (take (suc n) xs)
each_more P [] n x short is h this = absurd (omega (arith, short))
each_more P (y ∷ ys) zero x short is h this = (subst P is this, tt)
each_more P (y ∷ ys) (suc n) x short is h this = (h.0, each_more P ys n x (omega (arith, short)) is h.1 this)
