-- Members of lists and of filtered lists, and marks beside a list.
use Rattle.gather.proofs.Common.{Bool, List, Some, [], ap, arith, cond, false, filter, length, marked, refl, slice_get}
use Rattle.gather.proofs.Common.{slice_index_or, suc, true, zero, ℕ, ◌&&◌, ◌<◌, ◌∙◌, ◌∷◌, ◌≡◌}

-- what stands at a place of a list
pub there : {X : Type 0} (xs : List X) (i : ℕ) → i < length xs → (x : X) × (slice_get xs i ≡ Some x)
there [] i h = absurd (omega (arith, h))
there (x ∷ xs) zero h = (x, refl)
there (x ∷ xs) (suc i) h = there xs i (omega (arith, h))

pub filter_twice : {X : Type 0} (p q : X → Bool) (xs : List X) → filter q (filter p xs) ≡ filter (λ x. p x && q x) xs
filter_twice p q [] = refl
filter_twice p q (x ∷ xs) = go (p x) (filter_twice p q xs)
  where
    go : (b : Bool) → filter q (filter p xs) ≡ filter (λ x. p x && q x) xs
        → filter q (cond b (x ∷ filter p xs) (filter p xs))
        ≡ cond (b && q x) (x ∷ filter (λ x. p x && q x) xs) (filter (λ x. p x && q x) xs)
    go true e = ap (λ l. cond (q x) (x ∷ l) l) e
    go false e = e

-- the marked members are those that pass a test, where each mark says whether the member beside it does
pub marked_filter : {X : Type 0} (test : X → Bool) (bs : List Bool) (xs : List X) → length bs ≡ length xs
    → ((k : ℕ) (x : X) → slice_get xs k ≡ Some x → slice_index_or bs k false ≡ test x) → marked bs xs ≡ filter test xs
marked_filter test [] [] l h = refl
marked_filter test [] (x ∷ xs) l h = absurd (omega (arith, l))
marked_filter test (b ∷ bs) [] l h = absurd (omega (arith, l))
marked_filter test (b ∷ bs) (x ∷ xs) l h =
    let is : b ≡ test x = h 0 x refl in
    let rest : marked bs xs ≡ filter test xs = marked_filter test bs xs (omega (arith, l)) (λ k y e. h (suc k) y e) in
    ap (λ c. cond c (x ∷ marked bs xs) (marked bs xs)) is ∙ ap (λ l. cond (test x) (x ∷ l) l) rest
