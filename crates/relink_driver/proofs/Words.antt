-- The words of the files of a link, by their places.
use Rattle.relink_driver.proofs.Common.{List, [], ap, arith, get_or, length, map, option_map, refl, slice_get}
use Rattle.relink_driver.proofs.Common.{slice_get-get_or, slice_get-map, slice_get_past, suc, unwrap_or, zero, ℕ, ◌-◌}
use Rattle.relink_driver.proofs.Common.{◌<◌, ◌∷◌, ◌≡◌, ◌≤◌}

-- behind the first, what stands at a place of a list
later : {X : Type 0} (s : List ℕ) (f : X → List ℕ) (xs : List X) (n : ℕ) → 0 < n
    → slice_get (s ∷ map f xs) n ≡ option_map f (slice_get xs (n - 1))
later s f xs zero some = absurd (omega arith)
later s f xs (suc n) some =
    let back : suc n - 1 ≡ n = omega arith in
    rw back (slice_get-map f xs n)

pub at_some : {X : Type 0} (s : List ℕ) (f : X → List ℕ) (xs : List X) (n : ℕ) (x : X) → 0 < n → n - 1 < length xs
    → x ≡ get_or xs (n - 1) x → f x ≡ unwrap_or (slice_get (s ∷ map f xs) n) []
at_some s f xs n x some within is =
    let found = slice_get-get_or xs (n - 1) x within in
    rw (later s f xs n some, found) (ap f is)

pub at_none : {X : Type 0} (s : List ℕ) (f : X → List ℕ) (xs : List X) (n : ℕ) → 0 < n → length xs ≤ n - 1
    → [] ≡ unwrap_or (slice_get (s ∷ map f xs) n) []
at_none s f xs n some past = rw (later s f xs n some, slice_get_past xs (n - 1) past) refl
