-- What is left of a table, entry by entry.
use Rattle.emit_text.proofs.Common.{List, Some, [], ap, arith, drop, drop_more, get_or, length, map, refl, slice_get}
use Rattle.emit_text.proofs.Common.{suc, sym, zero, ℕ, ◌+◌, ◌<◌, ◌∙◌, ◌∷◌, ◌≡◌, ◌≤◌}
use Rattle.std.proofs.lemmas.Option.{get_or_from_slice_get, slice_get_within}

pub some_left : {X Y : Type 0} (f : X → Y) (xs : List X) (k : ℕ) (x : X) → k < length xs → x ≡ get_or xs k x
    → drop k (map f xs) ≡ f x ∷ drop (k + 1) (map f xs)
some_left f [] k x h e = absurd (omega (arith, h))
some_left f (y ∷ ys) zero x h e = ap (λ z. f z ∷ map f ys) (sym e)
some_left f (y ∷ ys) (suc k) x h e =
    let n : suc (k + 1) ≡ suc k + 1 = omega arith in
    some_left f ys k x (omega (arith, h)) e ∙ ap (λ m. f x ∷ drop m (map f (y ∷ ys))) n

pub none_left : {X Y : Type 0} (f : X → Y) (xs : List X) (k : ℕ) → length xs ≤ k → drop k (map f xs) ≡ []
none_left f [] zero h = refl
none_left f [] (suc k) h = refl
none_left f (x ∷ xs) zero h = absurd (omega (arith, h))
none_left f (x ∷ xs) (suc k) h = none_left f xs k (omega (arith, h))

-- the entry at a place, and those after it
pub entry_left : {X : Type 0} (xs : List X) (k : ℕ) (x : X) → slice_get xs k ≡ Some x
    → drop k xs ≡ x ∷ drop (k + 1) xs
entry_left xs k x e =
    drop_more xs k x (slice_get_within xs k x e)
    ∙ ap (λ y. y ∷ drop (k + 1) xs) (get_or_from_slice_get xs k x x e)
