-- Lists: what is known of each member, pair by pair and place by place.
use Rattle.emit.proofs.Common.{All, AllZip, AllZip-long, Contains, List, Some, [], ap, arith, get_or, length, map}
use Rattle.emit.proofs.Common.{option_map, refl, same_Some, slice_get, slice_get-map, subst, suc, sym, take, take_all}
use Rattle.emit.proofs.Common.{zero, zip_more, ℕ, ◌++◌, ◌+◌, ◌<◌, ◌∙◌, ◌∷◌, ◌≡◌, ◌≤◌}
use Rattle.std.proofs.lemmas.Option.{slice_get_read}

-- what follows for each pair, of whose first members all are in the list
pub zip_each : {A B : Type 0} (R S : A → B → Type 0) (xs : List A) (ys : List B)
    → ((x : A) (y : B) → Contains xs x → R x y → S x y) → AllZip R xs ys → AllZip S xs ys
zip_each R S [] [] f all = tt
zip_each R S [] (y ∷ ys) f all = absurd all
zip_each R S (x ∷ xs) [] f all = absurd all
zip_each R S (x ∷ xs) (y ∷ ys) f all = (
  f x y (0, omega arith, refl) all.0,
  zip_each R S xs ys (λ z w c r. f z w (suc c.0, omega (arith, c.1), c.2) r) all.1,
)

-- what follows of the second member of each pair
pub zip_right : {A B : Type 0} (R : A → B → Type 0) (P : B → Type 0) (xs : List A) (ys : List B)
    → ((x : A) (y : B) → R x y → P y) → AllZip R xs ys → All P ys
zip_right R P xs [] f all k d l = absurd (omega (arith, l))
zip_right R P [] (y ∷ ys) f all k d l = absurd all
zip_right R P (x ∷ xs) (y ∷ ys) f all zero d l = f x y all.0
zip_right R P (x ∷ xs) (y ∷ ys) f all (suc k) d l = zip_right R P xs ys f all.1 k d (omega (arith, l))

pub at_zip : {A B : Type 0} (R : A → B → Type 0) (xs : List A) (ys : List B) (k : ℕ) (x : A) (y : B) → AllZip R xs ys
    → slice_get xs k ≡ Some x → slice_get ys k ≡ Some y → R x y
at_zip R [] ys k x y h e f = absurd (let none : ⊥ = cc in none)
at_zip R (v ∷ vs) [] k x y h e f = absurd h
at_zip R (v ∷ vs) (w ∷ ws) zero x y h e f =
    subst (λ z. R z y) (same_Some _ _ e) (subst (λ z. R v z) (same_Some _ _ f) h.0)
at_zip R (v ∷ vs) (w ∷ ws) (suc k) x y h e f = at_zip R vs ws k x y h.1 e f

-- the member of a list that goes together with one of another
pub record Next {A B : Type 0} (R : A → B → Type 0) (xs : List A) (k : ℕ) (y : B) : Type 0 where
  pub member : A
  pub at : slice_get xs k ≡ Some member
  pub taken : take (k + 1) xs ≡ take k xs ++ member ∷ []
  pub is : R member y

pub next_zip : {A B : Type 0} (R : A → B → Type 0) (xs : List A) (ys : List B) (k : ℕ) (y : B) → AllZip R xs ys
    → k < length ys → get_or ys k y ≡ y → Next R xs k y
next_zip R [] [] k y h l e = absurd (omega (arith, l))
next_zip R [] (w ∷ ws) k y h l e = absurd h
next_zip R (v ∷ vs) [] k y h l e = absurd h
next_zip R (v ∷ vs) (w ∷ ws) zero y h l e =
    record { member = v; at = refl; taken = refl; is = subst (λ z. R v z) e h.0 }
next_zip R (v ∷ vs) (w ∷ ws) (suc k) y h l e =
    let rest = next_zip R vs ws k y h.1 (omega (arith, l)) e in
    let more : suc k + 1 ≡ suc (k + 1) = omega arith in
    record {
      member = rest.member;
      at = rest.at;
      taken = ap (λ n. take n (v ∷ vs)) more ∙ ap (λ l. v ∷ l) rest.taken;
      is = rest.is;
    }

-- one pair more
pub zip_next : {A B C : Type 0} (R : A → B → Type 0) (S : A → C → Type 0) (xs : List A) (ys : List B) (zs ws : List C)
    (k : ℕ) (y : B) (z : C) → AllZip R xs ys → k < length ys → get_or ys k y ≡ y → ((x : A) → R x y → S x z)
    → ws ≡ zs ++ z ∷ [] → AllZip S (take k xs) zs → AllZip S (take (k + 1) xs) ws
zip_next R S xs ys zs ws k y z h l e f pushed so_far =
    let next = next_zip R xs ys k y h l e in
    subst (λ vs. AllZip S vs ws) (sym next.taken)
    (subst (λ vs. AllZip S (take k xs ++ next.member ∷ []) vs) (sym pushed)
    (zip_more S (take k xs) zs next.member z so_far (f next.member next.is)))

-- all pairs
pub zip_done : {A B C : Type 0} (R : A → B → Type 0) (S : A → C → Type 0) (xs : List A) (ys : List B) (zs : List C)
    (k : ℕ) → AllZip R xs ys → length ys ≤ k → AllZip S (take k xs) zs → AllZip S xs zs
zip_done R S xs ys zs k h past done =
    subst (λ vs. AllZip S vs zs) (take_all k xs (omega (arith, past, AllZip-long R xs ys h))) done

-- the member of a mapped list
pub mapped_at : {X Y : Type 0} (f : X → Y) (xs : List X) (k : ℕ) (x : X) → k < length xs → x ≡ get_or xs k x
    → slice_get (map f xs) k ≡ Some (f x)
mapped_at f xs k x l e =
    slice_get-map f xs k ∙ ap (option_map f) (slice_get_read xs (length xs) k x refl l e)

pub own_member : {X : Type 0} (xs : List X) (k : ℕ) (d : X) → get_or xs k (get_or xs k d) ≡ get_or xs k d
own_member [] k d = refl
own_member (x ∷ xs) zero d = refl
own_member (x ∷ xs) (suc k) d = own_member xs k d

pub take_next : {X : Type 0} (xs : List X) (k : ℕ) (x : X) → slice_get xs k ≡ Some x → take (k + 1) xs
    ≡ take k xs ++ x ∷ []
take_next [] k x e = absurd (let none : ⊥ = cc in none)
take_next (y ∷ ys) zero x e = ap (λ z. z ∷ []) (same_Some _ _ e)
take_next (y ∷ ys) (suc k) x e =
    let more : suc k + 1 ≡ suc (k + 1) = omega arith in
    ap (λ n. take n (y ∷ ys)) more ∙ ap (λ l. y ∷ l) (take_next ys k x e)

pub get_left : {X : Type 0} (xs ys : List X) (k : ℕ) (x : X) → slice_get xs k ≡ Some x → slice_get (xs ++ ys) k ≡ Some x
get_left [] ys k x e = absurd (let none : ⊥ = cc in none)
get_left (w ∷ ws) ys zero x e = e
get_left (w ∷ ws) ys (suc k) x e = get_left ws ys k x e

pub get_right : {X : Type 0} (xs ys : List X) (k : ℕ) → slice_get (xs ++ ys) (length xs + k) ≡ slice_get ys k
get_right [] ys k = let e : 0 + k ≡ k = omega arith in ap (slice_get ys) e
get_right (w ∷ ws) ys k =
    let e : suc (length ws) + k ≡ suc (length ws + k) = omega arith in
    ap (slice_get (w ∷ (ws ++ ys))) e ∙ get_right ws ys k
