-- Lists in which one element goes and one comes.
use Rattle.relink.proofs.Common.{AllZip, List, Some, [], ap, arith, insert, length, map, refl, remove, slice_get, suc}
use Rattle.relink.proofs.Common.{zero, ℕ, ◌<◌, ◌∷◌, ◌≡◌, ◌≤◌}

pub remove_insert : {X : Type 0} (xs : List X) (i : ℕ) (y : X) → i ≤ length xs → remove (insert xs i y) i ≡ xs
remove_insert xs zero y l = refl
remove_insert [] (suc i) y l = absurd (omega (arith, l))
remove_insert (x ∷ xs) (suc i) y l = ap (λ (l : List _). x ∷ l) (remove_insert xs i y (omega (arith, l)))

pub map_insert : {X Y : Type 0} (f : X → Y) (xs : List X) (i : ℕ) (x : X) → map f (insert xs i x)
    ≡ insert (map f xs) i (f x)
map_insert f xs zero x = refl
map_insert f [] (suc i) x = refl
map_insert f (y ∷ xs) (suc i) x = ap (λ (l : List _). f y ∷ l) (map_insert f xs i x)

pub zip_insert : {A B : Type 0} (R : A → B → Type 0) (xs : List A) (ys : List B) (i : ℕ) (x : A) (y : B)
    → AllZip R xs ys
    → R x y → AllZip R (insert xs i x) (insert ys i y)
zip_insert R xs ys zero x y h r = (r, h)
zip_insert R [] [] (suc i) x y h r = (r, h)
zip_insert R [] (z ∷ ys) (suc i) x y h r = absurd h
zip_insert R (z ∷ xs) [] (suc i) x y h r = absurd h
zip_insert R (z ∷ xs) (w ∷ ys) (suc i) x y h r = (h.0, zip_insert R xs ys i x y h.1 r)

pub zip_remove : {A B : Type 0} (R : A → B → Type 0) (xs : List A) (ys : List B) (i : ℕ) → AllZip R xs ys
    → AllZip R (remove xs i) (remove ys i)
zip_remove R [] [] zero h = h
zip_remove R [] [] (suc i) h = h
zip_remove R [] (z ∷ ys) i h = absurd h
zip_remove R (z ∷ xs) [] i h = absurd h
zip_remove R (z ∷ xs) (w ∷ ys) zero h = h.1
zip_remove R (z ∷ xs) (w ∷ ys) (suc i) h = (h.0, zip_remove R xs ys i h.1)

pub zip_length : {A B : Type 0} (R : A → B → Type 0) (xs : List A) (ys : List B) → AllZip R xs ys
    → length xs ≡ length ys
zip_length R [] [] h = refl
zip_length R [] (y ∷ ys) h = absurd h
zip_length R (x ∷ xs) [] h = absurd h
zip_length R (x ∷ xs) (y ∷ ys) h = ap suc (zip_length R xs ys h.1)

-- what is read at a place that there is
pub get_some : {X : Type 0} (xs : List X) (i : ℕ) → i < length xs → (x : X) × (slice_get xs i ≡ Some x)
get_some [] i l = absurd (omega (arith, l))
get_some (x ∷ xs) zero l = (x, refl)
get_some (x ∷ xs) (suc i) l = get_some xs i (omega (arith, l))

pub insert_get : {X : Type 0} (xs : List X) (i : ℕ) (x : X) → slice_get xs i ≡ Some x → insert (remove xs i) i x ≡ xs
insert_get [] i x e = absurd (cc)
insert_get (y ∷ xs) zero x e = let same : y ≡ x = cc in ap (λ (z : _). z ∷ xs) (cc)
insert_get (y ∷ xs) (suc i) x e = ap (λ (l : List _). y ∷ l) (insert_get xs i x e)
