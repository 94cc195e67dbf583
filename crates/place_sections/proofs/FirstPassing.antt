-- The first place at which a test passes, in a list and in a part of it.
use Rattle.place_sections.proofs.Common.{Bool, List, MarkedAt, None, Option, Some, Under, [], ap, arith, before, below}
use Rattle.place_sections.proofs.Common.{cases_lt, cond, eq-eqb, eqb-true, false, false_from_ne_true, found, here, inl}
use Rattle.place_sections.proofs.Common.{inr, le-ltb, length, length-append, length-take-le, lt-ltb, min, nat_lt, not}
use Rattle.place_sections.proofs.Common.{position, position_or_len, prefix_len-le-length, refl, same, subst, suc, sym}
use Rattle.place_sections.proofs.Common.{take, true, zero, ℕ, ◌*◌, ◌++◌, ◌+◌, ◌<◌, ◌==◌, ◌∙◌, ◌∷◌, ◌≡◌, ◌≤◌}
use Rattle.std.proofs.lemmas.List.Folds.{position_or_len_push}

place_take : {X : Type 0} (p : X → Bool) (xs : List X) (k : ℕ) → k ≤ length xs
    → position_or_len p (take k xs) ≡ min k (position_or_len p xs)
place_take p xs zero within = omega arith
place_take p [] (suc k) within = omega arith
place_take p (x ∷ xs) (suc k) within = by_case (p x) (place_take p xs k (omega (arith, within))) where
  by_case : (b : Bool) → position_or_len p (take k xs) ≡ min k (position_or_len p xs)
      → cond (not b) (1 + position_or_len p (take k xs)) 0 ≡ min (suc k) (cond (not b) (1 + position_or_len p xs) 0)
  by_case true next = omega arith
  by_case false next = omega (arith, next)

-- in the first ones
pub position_take : {X : Type 0} (p : X → Bool) (xs : List X) (k : ℕ) → k ≤ length xs
    → position p (take k xs) ≡ before k (position p xs)
position_take p xs k within = elim (cases_lt (position_or_len p xs) k) [
  | inl early ↦
      let here_is : position_or_len p (take k xs) ≡ position_or_len p xs =
      omega (arith, place_take p xs k within, early) in
      ap (λ i. cond (nat_lt i (length (take k xs))) (Some i) None) here_is
      ∙ ap (λ b. cond b (Some (position_or_len p xs)) None)
      (lt-ltb (position_or_len p xs) (length (take k xs)) (omega (arith, early, length-take-le k xs within)))
      ∙ sym (ap (λ b. before k (cond b (Some (position_or_len p xs)) None))
      (lt-ltb (position_or_len p xs) (length xs) (omega (arith, early, within)))
      ∙ ap (λ b. cond b (Some (position_or_len p xs)) None) (lt-ltb (position_or_len p xs) k early))
  | inr late ↦
      let here_is : position_or_len p (take k xs) ≡ k = omega (arith, place_take p xs k within, late) in
      ap (λ i. cond (nat_lt i (length (take k xs))) (Some i) None) here_is
      ∙ ap (λ b. cond b (Some k) None) (le-ltb k (length (take k xs)) (omega (arith, length-take-le k xs within)))
      ∙ sym (by_case (nat_lt (position_or_len p xs) (length xs)) late)
] where
  by_case : (b : Bool) → k ≤ position_or_len p xs → before k (cond b (Some (position_or_len p xs)) None) ≡ None
  by_case true late = ap (λ b. cond b (Some (position_or_len p xs)) None) (le-ltb (position_or_len p xs) k late)
  by_case false late = refl

-- with one more
push_some : {X : Type 0} (p : X → Bool) (xs : List X) (y : X) → position_or_len p xs < length xs
    → position p (xs ++ y ∷ []) ≡ Some (position_or_len p xs)
push_some p xs y within =
    let i : ℕ = position_or_len p xs in
    let differs : (i == length xs) ≡ false =
    false_from_ne_true (i == length xs) (λ is. absurd (omega (arith, within, eqb-true i (length xs) is))) in
    let stays : position_or_len p (xs ++ y ∷ []) ≡ i =
    position_or_len_push p xs y ∙ ap (λ b. cond b (length xs + cond (p y) 0 1) i) differs in
    ap (λ n. cond (nat_lt n (length (xs ++ y ∷ []))) (Some n) None) stays
    ∙ ap (λ b. cond b (Some i) None)
    (lt-ltb i (length (xs ++ y ∷ [])) (omega (arith, within, length-append xs (y ∷ []))))

push_none : {X : Type 0} (p : X → Bool) (xs : List X) (y : X) → length xs ≤ position_or_len p xs
    → position p (xs ++ y ∷ []) ≡ cond (p y) (Some (length xs)) None
push_none p xs y past =
    let i : ℕ = position_or_len p xs in
    let all : i ≡ length xs = omega (arith, past, prefix_len-le-length (λ x. not (p x)) xs) in
    let count : length (xs ++ y ∷ []) ≡ length xs + 1 = length-append xs (y ∷ []) in
    ap (λ n. cond (nat_lt n (length (xs ++ y ∷ []))) (Some n) None)
    (position_or_len_push p xs y
    ∙ ap (λ b. cond b (length xs + cond (p y) 0 1) i) (eq-eqb i (length xs) all))
    ∙ by_case (p y) count where
      by_case : (b : Bool) → length (xs ++ y ∷ []) ≡ length xs + 1
          → cond (nat_lt (length xs + cond b 0 1) (length (xs ++ y ∷ []))) (Some (length xs + cond b 0 1)) None
          ≡ cond b (Some (length xs)) None
      by_case true count =
          let n : length xs + 0 ≡ length xs = omega arith in
          ap (λ n. cond (nat_lt n (length (xs ++ y ∷ []))) (Some n) None) n
          ∙ ap (λ b. cond b (Some (length xs)) None) (lt-ltb (length xs) (length (xs ++ y ∷ [])) (omega (arith, count)))
      by_case false count =
          ap (λ b. cond b (Some (length xs + 1)) None)
          (le-ltb (length xs + 1) (length (xs ++ y ∷ [])) (omega (arith, count)))

pub position_push : {X : Type 0} (p : X → Bool) (xs : List X) (y : X) (old new : Option ℕ) → old ≡ position p xs
    → MarkedAt (p y) (length xs) old new → (new ≡ None → p y ≡ false) → new ≡ position p (xs ++ y ∷ [])
position_push p xs y old new was marked missed = elim (cases_lt (position_or_len p xs) (length xs)) [
  | inl within ↦
      by_mark old new marked (was ∙ ap (λ b. cond b (Some (position_or_len p xs)) None)
      (lt-ltb (position_or_len p xs) (length xs) within))
      ∙ sym (push_some p xs y within)
  | inr past ↦
      by_none old new marked (was ∙ ap (λ b. cond b (Some (position_or_len p xs)) None)
      (le-ltb (position_or_len p xs) (length xs) past)) missed
      ∙ sym (push_none p xs y past)
] where
  by_mark : (o n : Option ℕ) → MarkedAt (p y) (length xs) o n → o ≡ Some (position_or_len p xs)
      → n ≡ Some (position_or_len p xs)
  by_mark _ _ (same o) is = is
  by_mark _ _ (found met) is = absurd (cc is)

  by_none : (o n : Option ℕ) → MarkedAt (p y) (length xs) o n → o ≡ None → (n ≡ None → p y ≡ false)
      → n ≡ cond (p y) (Some (length xs)) None
  by_none _ _ (same o) is fails = is ∙ sym (ap (λ b. cond b (Some (length xs)) None) (fails is))
  by_none _ _ (found met) is fails = sym (ap (λ b. cond b (Some (length xs)) None) met)

record Half (c : ℕ) : Type 0 where
  half : ℕ
  low : 2 * half ≤ c
  high : c ≤ 2 * half + 1

half_of : (c : ℕ) → Half c
half_of zero = record { half = 0; low = omega arith; high = omega arith }
half_of (suc zero) = record { half = 0; low = omega arith; high = omega arith }
half_of (suc (suc c)) =
    let h : Half c = half_of c in
    record { half = h.half + 1; low = omega (arith, h.low); high = omega (arith, h.high) }

under_within : (n c : ℕ) → c ≤ n → 0 < c → Under 1 c
under_within zero c small positive = absurd (omega (arith, small, positive))
under_within (suc n) c small positive = elim (cases_lt 1 c) [
  | inl more ↦
      let h : Half c = half_of c in
      below h.half c (under_within n h.half (omega (arith, small, h.low, h.high, more)) (omega (arith, h.high, more)))
      h.low h.high
  | inr one ↦ let is : 1 ≡ c = omega (arith, one, positive) in subst (λ k. Under 1 k) is here
]

-- each node is below the first
pub under_first : (c : ℕ) → 0 < c → Under 1 c
under_first c positive = under_within c c (omega arith) positive
