-- Searches in lists.
use Rattle.place_terms.proofs.Common.{Bool, List, None, Option, Some, [], bytes_eq, bytes_eq-Decides, cond, false, find}
use Rattle.place_terms.proofs.Common.{refl, true, ℕ, ◌++◌, ◌∷◌, ◌≡◌}

-- a search that goes on where there was nothing
abbrev pub or_else : {X : Type 0} → Option X → Option X → Option X
or_else (Some x) later = Some x
or_else None later = later

pub find-append : {X : Type 0} (p : X → Bool) (xs ys : List X) → find p (xs ++ ys) ≡ or_else (find p xs) (find p ys)
find-append p [] ys = refl
find-append p (x ∷ xs) ys = go (p x) (find-append p xs ys)
  where
    go : (b : Bool) → find p (xs ++ ys) ≡ or_else (find p xs) (find p ys) → cond b (Some x) (find p (xs ++ ys))
        ≡ or_else (cond b (Some x) (find p xs)) (find p ys)
    go true h = refl
    go false h = h

pub same_name : (a b : List ℕ) → bytes_eq a b ≡ true → a ≡ b
same_name a b e = (bytes_eq-Decides a b).0 e

pub is_same_name : (a b : List ℕ) → a ≡ b → bytes_eq a b ≡ true
is_same_name a b e = (bytes_eq-Decides a b).1 e
