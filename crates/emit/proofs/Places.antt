-- What is found in a list by a test, place by place.
use Rattle.emit.proofs.Common.{Bool, Contains, List, None, Option, Some, [], ap, arith, cond, cons_option, false}
use Rattle.emit.proofs.Common.{filter_map, filter_map-append, find, flat_map, get_or, here, later, length, refl}
use Rattle.emit.proofs.Common.{same_Some, slice_get, suc, sym, true, zero, ℕ, ◌++◌, ◌<◌, ◌∙◌, ◌∷◌, ◌≡◌}

-- the member of a place, if it passes a test
abbrev pub kept : {X : Type 0} → (X → Bool) → Option X → Option X
kept f None = None
kept f (Some x) = cond (f x) (Some x) None

-- lists that have the same passing members in each place have the same first one
pub find_by_place : {X : Type 0} (f : X → Bool) (xs ys : List X)
    → ((j : ℕ) → kept f (slice_get xs j) ≡ kept f (slice_get ys j)) → find f xs ≡ find f ys
find_by_place f [] [] h = refl
find_by_place {X} f [] (y ∷ ys) h = go (f y) (h 0) (find_by_place f [] ys (λ j. h (suc j)))
  where
    none : Option X
    none = None

    go : (b : Bool) → none ≡ cond b (Some y) None → none ≡ find f ys → none ≡ cond b (Some y) (find f ys)
    go true e r = absurd (let no : ⊥ = cc in no)
    go false e r = r
find_by_place {X} f (x ∷ xs) [] h = go (f x) (h 0) (find_by_place f xs [] (λ j. h (suc j)))
  where
    none : Option X
    none = None

    go : (b : Bool) → cond b (Some x) None ≡ none → find f xs ≡ none → cond b (Some x) (find f xs) ≡ none
    go true e r = absurd (let no : ⊥ = cc in no)
    go false e r = r
find_by_place {X} f (x ∷ xs) (y ∷ ys) h =
    go (f x) (f y) (h 0) (find_by_place f xs ys (λ j. h (suc j)))
  where
    go : (a b : Bool) → cond a (Some x) None ≡ cond b (Some y) None → find f xs ≡ find f ys
        → cond a (Some x) (find f xs) ≡ cond b (Some y) (find f ys)
    go true true e r = e
    go true false e r = absurd (let no : ⊥ = cc in no)
    go false true e r = absurd (let no : ⊥ = cc in no)
    go false false e r = r

-- what is found has a place
pub record Found {X : Type 0} (f : X → Bool) (xs : List X) (x : X) : Type 0 where
  pub place : ℕ
  pub is : slice_get xs place ≡ Some x
  pub among : Contains xs x
  pub passes : f x ≡ true

pub found : {X : Type 0} (f : X → Bool) (xs : List X) (x : X) → find f xs ≡ Some x → Found f xs x
found f [] x e = absurd (let no : ⊥ = cc in no)
found {X} f (y ∷ ys) x e = go (f y) refl e (found f ys x)
  where
    go : (b : Bool) → f y ≡ b → cond b (Some y) (find f ys) ≡ Some x → (find f ys ≡ Some x → Found f ys x)
        → Found f (y ∷ ys) x
    go true t k rest =
        let is : y ≡ x = same_Some _ _ k in
        record { place = 0; is = k; among = (0, omega arith, is); passes = sym (ap f is) ∙ t }
    go false t k rest = let r = rest k in
        record { place = suc r.place; is = r.is; among = later y ys x r.among; passes = r.passes }

-- a member has a place
pub record Placed {X : Type 0} (xs : List X) (x : X) : Type 0 where
  pub place : ℕ
  pub is : slice_get xs place ≡ Some x

get_at : {X : Type 0} (xs : List X) (k : ℕ) (x : X) → k < length xs → get_or xs k x ≡ x → slice_get xs k ≡ Some x
get_at [] k x low e = absurd (omega (arith, low))
get_at (y ∷ ys) zero x low e = ap Some e
get_at (y ∷ ys) (suc k) x low e = get_at ys k x (omega (arith, low)) e

pub place_of : {X : Type 0} (xs : List X) (x : X) → Contains xs x → Placed xs x
place_of xs x c = record { place = c.0; is = get_at xs c.0 x c.1 c.2 }

-- ---- lists without a result

pub both_nil : {X : Type 0} (xs ys : List X) → xs ++ ys ≡ [] → (xs ≡ []) × (ys ≡ [])
both_nil [] ys e = (refl, e)
both_nil (x ∷ xs) ys e = absurd (let no : ⊥ = cc in no)

pub none_at : {X Y Z : Type 0} (f : Y → Option Z) (g : X → List Y) (xs : List X) (j : ℕ) (x : X)
    → filter_map f (flat_map g xs) ≡ [] → slice_get xs j ≡ Some x → filter_map f (g x) ≡ []
none_at f g [] j x e is = absurd (let no : ⊥ = cc in no)
none_at f g (y ∷ ys) zero x e is =
    ap (λ z. filter_map f (g z)) (sym (same_Some y x is))
    ∙ (both_nil (filter_map f (g y)) (filter_map f (flat_map g ys))
    (sym (filter_map-append f (g y) (flat_map g ys)) ∙ e)).0
none_at f g (y ∷ ys) (suc j) x e is =
    none_at f g ys j x
    (both_nil (filter_map f (g y)) (filter_map f (flat_map g ys))
    (sym (filter_map-append f (g y) (flat_map g ys)) ∙ e)).1 is

pub none_of_each : {X Y Z : Type 0} (f : Y → Option Z) (g : X → List Y) (xs : List X)
    → ((j : ℕ) (x : X) → slice_get xs j ≡ Some x → filter_map f (g x) ≡ []) → filter_map f (flat_map g xs) ≡ []
none_of_each f g [] h = refl
none_of_each f g (x ∷ xs) h =
    filter_map-append f (g x) (flat_map g xs)
    ∙ ap (λ ys. ys ++ filter_map f (flat_map g xs)) (h 0 x refl)
    ∙ none_of_each f g xs (λ j y e. h (suc j) y e)

pub none_of_all : {Y Z : Type 0} (f : Y → Option Z) (ys : List Y) → ((y : Y) → Contains ys y → f y ≡ None)
    → filter_map f ys ≡ []
none_of_all f [] h = refl
none_of_all f (y ∷ ys) h =
    ap (λ m. cons_option m (filter_map f ys)) (h y (here y ys)) ∙ none_of_all f ys (λ z c. h z (later y ys z c))

-- what gives the same of each member gives the same of a list
pub same_results : {Y Z : Type 0} (f g : Y → Option Z) (ys : List Y) → ((y : Y) → Contains ys y → f y ≡ g y)
    → filter_map f ys ≡ filter_map g ys
same_results f g [] h = refl
same_results f g (y ∷ ys) h =
    ap (λ m. cons_option m (filter_map f ys)) (h y (here y ys))
    ∙ ap (cons_option (g y)) (same_results f g ys (λ z c. h z (later y ys z c)))
