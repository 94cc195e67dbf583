-- What a search through a list finds, and the last end before an address.
use Rattle.emit_image.proofs.Common.{All, Bool, Contains, List, None, Some, [], ap, arith, cond, covers, false, filter}
use Rattle.emit_image.proofs.Common.{find, get_or, inl, inr, last_end, leb_tells, length, map, max, nat_tests, refl}
use Rattle.emit_image.proofs.Common.{suc, true, zero, ℕ, ◌+◌, ◌<◌, ◌∙◌, ◌∷◌, ◌≡◌, ◌≤◌, ◌⊎◌}

pub find-none : {X : Type 0} (test : X → Bool) (xs : List X)
    → ((i : ℕ) (d : X) → i < length xs → test (get_or xs i d) ≡ false) → find test xs ≡ None
find-none test [] h = refl
find-none test (x ∷ xs) h = rw (h 0 x (omega arith)) (find-none test xs (λ i d l. h (suc i) d (omega arith)))

pub find-at : {X : Type 0} (test : X → Bool) (xs : List X) (k : ℕ) (d : X) → k < length xs
    → ((i : ℕ) (e : X) → i < k → i < length xs → test (get_or xs i e) ≡ false) → test (get_or xs k d) ≡ true
    → find test xs ≡ Some (get_or xs k d)
find-at test [] k d l h t = absurd (omega arith)
find-at test (x ∷ xs) zero d l h t = rw t refl
find-at test (x ∷ xs) (suc k) d l h t =
    rw (h 0 x (omega arith) (omega arith))
    (find-at test xs k d (omega arith) (λ i e a b. h (suc i) e (omega arith) (omega arith)) t)

pub not_covered : (s n a : ℕ) → (0 < n → (s + n ≤ a) ⊎ (a < s)) → covers s n a ≡ false
not_covered s n a h = elim (leb_tells (suc 0) n) [
  | inl some ↦ elim (h some.1) [ inl x ↦ grind (arith, nat_tests) | inr x ↦ grind (arith, nat_tests) ]
  | inr none ↦ (let e : n ≡ 0 = omega (arith, none.1) in grind (arith, nat_tests))
]

pub covered : (s n a : ℕ) → s ≤ a → a < s + n → covers s n a ≡ true
covered s n a l h = grind (arith, nat_tests)

contains_rest : (x g : ℕ) (xs : List ℕ) → Contains (x ∷ xs) g → (x ≡ g) ⊎ Contains xs g
contains_rest x g xs (zero, l, e) = inl e
contains_rest x g xs (suc k, l, e) = inr (k, omega arith, e)

all-tail : (P : ℕ → Type 0) (x : ℕ) (xs : List ℕ) → All P (x ∷ xs) → All P xs
all-tail P x xs h = λ k d l. h (suc k) d (omega arith)

-- the last end before an address, where all ends are by a place or after the address
pub last-end : (at n g : ℕ) (ends : List ℕ) → n ≤ g → g ≤ at → All (λ e. (e ≤ g) ⊎ (at < e)) ends → (n ≡ g)
    ⊎ Contains ends g → last_end at n ends ≡ g
last-end at n g [] a b all (inl e) = e
last-end at n g [] a b all (inr m) = absurd (let l : m.0 < 0 = m.1 in omega arith)
last-end at n g (x ∷ xs) a b all where-it = elim (leb_tells x at) [
  | inl t ↦
      (let low : x ≤ g = elim (all 0 x (omega arith)) [ inl c ↦ c | inr c ↦ absurd (omega (arith, t.1)) ] in
      let is : (max n x ≡ g) ⊎ Contains xs g = elim where-it [
        | inl e ↦ inl (let m : max n x ≡ g = omega arith in m)
        | inr c ↦ elim (contains_rest x g xs c) [ inl e ↦ inl (let m : max n x ≡ g = omega arith in m) | inr d ↦ inr d ]
      ] in
      let step : last_end at n (x ∷ xs) ≡ last_end at (max n x) xs =
      ap (λ (c : Bool). last_end at (cond c (max n x) n) xs) t.0 in
      step ∙ last-end at (max n x) g xs (omega arith) b (all-tail (λ e. (e ≤ g) ⊎ (at < e)) x xs all) is)
  | inr f ↦
      (let is : (n ≡ g) ⊎ Contains xs g = elim where-it [
        | inl e ↦ inl e
        | inr c ↦ elim (contains_rest x g xs c) [ inl e ↦ absurd (omega (arith, f.1)) | inr d ↦ inr d ]
      ] in
      let step : last_end at n (x ∷ xs) ≡ last_end at n xs =
      ap (λ (c : Bool). last_end at (cond c (max n x) n) xs) f.0 in
      step ∙ last-end at n g xs a b (all-tail (λ e. (e ≤ g) ⊎ (at < e)) x xs all) is)
]

module _ {X : Type 0} (p : X → Bool) (P : X → Type 0) where
  all-cons : (x : X) (xs : List X) → P x → All P xs → All P (x ∷ xs)
  all-cons x xs h hs zero d l = h
  all-cons x xs h hs (suc k) d l = hs k d (omega arith)

  kept-or-not : (b : Bool) (x : X) (xs : List X) → (b ≡ true → P x) → All P xs → All P (cond b (x ∷ xs) xs)
  kept-or-not true x xs h hs = all-cons x xs (h refl) hs
  kept-or-not false x xs h hs = hs

  -- what passes a test has a property where it has it because it passes
  pub all-full : (xs : List X) → ((i : ℕ) (d : X) → i < length xs → p (get_or xs i d) ≡ true → P (get_or xs i d))
      → All P (filter p xs)
  all-full [] h = λ i d l. absurd (omega arith)
  all-full (x ∷ xs) h =
      kept-or-not (p x) x (filter p xs) (h 0 x (omega arith)) (all-full xs (λ i d l. h (suc i) d (omega arith)))

module _ {X : Type 0} (p : X → Bool) (f : X → ℕ) where
  first-of : (b : Bool) (x : X) (xs : List X) → b ≡ true → Contains (map f (cond b (x ∷ xs) xs)) (f x)
  first-of true x xs e = (0, omega arith, refl)
  first-of false x xs e = cc

  later-of : (b : Bool) (x : X) (xs : List X) (n : ℕ) → Contains (map f xs) n → Contains (map f (cond b (x ∷ xs) xs)) n
  later-of true x xs n c = (suc c.0, omega (arith, c.1), c.2)
  later-of false x xs n c = c

  -- an element that passes a test is among those that do
  pub contains-full : (xs : List X) (k : ℕ) (d : X) → k < length xs → p (get_or xs k d) ≡ true
      → Contains (map f (filter p xs)) (f (get_or xs k d))
  contains-full [] k d l t = absurd (omega arith)
  contains-full (x ∷ xs) zero d l t = first-of (p x) x (filter p xs) t
  contains-full (x ∷ xs) (suc k) d l t =
      later-of (p x) x (filter p xs) (f (get_or xs k d)) (contains-full xs k d (omega arith) t)

pub contains-at : {X : Type 0} (f : X → ℕ) (xs : List X) (k : ℕ) (d : X) → k < length xs
    → Contains (map f xs) (f (get_or xs k d))
contains-at f [] k d l = absurd (omega arith)
contains-at f (x ∷ xs) zero d l = (0, omega arith, refl)
contains-at f (x ∷ xs) (suc k) d l = let c = contains-at f xs k d (omega arith) in (suc c.0, omega (arith, c.1), c.2)

any-default : {X : Type 0} (xs : List X) (k : ℕ) (d e : X) → k < length xs → get_or xs k d ≡ get_or xs k e
any-default [] k d e l = absurd (omega arith)
any-default (x ∷ xs) zero d e l = refl
any-default (x ∷ xs) (suc k) d e l = any-default xs k d e (omega arith)

-- an element has one value, by whatever number and default it is asked for
pub same-at : {X : Type 0} (xs : List X) (i k : ℕ) (d e : X) → i ≡ k → k < length xs → get_or xs i d ≡ get_or xs k e
same-at xs i k d e same l = ap (λ n. get_or xs n d) same ∙ any-default xs k d e l
