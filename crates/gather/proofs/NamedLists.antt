-- Lists under names, and lists of what stands at names.
use Rattle.gather.proofs.Common.{Bool, Err, List, Ok, OnErr, OnOk, Option, Result, Some, [], ap, arith, bytes_eq}
use Rattle.gather.proofs.Common.{bytes_eq-Decides, cond, false, get_or, get_or-map, get_or-take, get_or_from_slice_get}
use Rattle.gather.proofs.Common.{is_some, length, length-map, length-take-le, map, map-append, option_map}
use Rattle.gather.proofs.Common.{option_map_or, refl, slice_get, slice_get-get_or, slice_get-map, slice_get_within, sym}
use Rattle.gather.proofs.Common.{take, take_more, true, ℕ, ◌++◌, ◌+◌, ◌<◌, ◌∙◌, ◌∷◌, ◌≡◌, ◌≢◌}

equal_names : (a b : List ℕ) → bytes_eq a b ≡ true → a ≡ b
equal_names a b h = grind (arith, bytes_eq-Decides)

-- the list under a name, some more under a name put in
pub listed_more : {V W : Type 0} (items : V → List W) (from : List ℕ → Option V) (name q : List ℕ) (new : Option V)
    (v : V) (xs : List W)
    → new ≡ cond (bytes_eq name q) (Some v) (from q) → items v ≡ option_map_or items (from name) [] ++ xs
    → option_map_or items new []
    ≡ cond (bytes_eq name q) (option_map_or items (from q) [] ++ xs) (option_map_or items (from q) [])
listed_more {W = W} items from name q new v xs is has = go (bytes_eq name q) refl is
  where
    go : (b : Bool) → bytes_eq name q ≡ b → new ≡ cond b (Some v) (from q) → option_map_or items new []
        ≡ cond b (option_map_or items (from q) [] ++ xs) (option_map_or items (from q) [])
    go true e i = ap (λ o. option_map_or items o []) i ∙ has
        ∙ ap (λ n. option_map_or items (from n) [] ++ xs) (equal_names name q e)
    go false e i = ap (λ o. option_map_or items o []) i

-- nothing under another name than the one put in, where there was nothing
pub still_none : {V : Type 0} (name q : List ℕ) (v : V) (old new : Option V) → q ≢ name
    → new ≡ cond (bytes_eq name q) (Some v) old → is_some old ≡ false → is_some new ≡ false
still_none name q v old new apart is none = go (bytes_eq name q) refl is
  where
    go : (b : Bool) → bytes_eq name q ≡ b → new ≡ cond b (Some v) old → is_some new ≡ false
    go true e i = absurd (apart (sym (equal_names name q e)))
    go false e i = ap is_some i ∙ none

pub by_result : {T E A B C : Type 0} (r : Result T E) → OnOk r A → OnErr r B → (A → C) → (B → C) → C
by_result (Ok x) a b f g = f a
by_result (Err e) a b f g = g b

-- one more of what is so in a list
pub map_more : {X Y : Type 0} (f : X → Y) (found : List X) (x : X) (ys : List Y) (i : ℕ) {new : List X}
    → slice_get ys i ≡ Some (f x) → map f found ≡ take i ys → new ≡ found ++ x ∷ [] → map f new ≡ take (i + 1) ys
map_more f found x ys i at so_far pushed =
    ap (map f) pushed ∙ map-append f found (x ∷ []) ∙ ap (λ l. l ++ f x ∷ []) so_far
    ∙ ap (λ y. take i ys ++ y ∷ []) (sym (get_or_from_slice_get ys i (f x) (f x) at))
    ∙ sym (take_more ys i (f x) (slice_get_within ys i (f x) at))

-- how many are found before a place
pub found_before : {X Y : Type 0} (f : X → Y) (g : List ℕ → Y) (found : List X) (names : List (List ℕ)) (i : ℕ)
    → map f found ≡ take i (map g names) → i < length names → length found ≡ i
found_before f g found names i so_far low =
    sym (length-map found f) ∙ ap length so_far
    ∙ length-take-le i (map g names) (omega (arith, low, length-map names g))

-- what is found at one place stands at another of the same name too
pub same_name : {X Y : Type 0} (f : X → Y) (g : List ℕ → Y) (found : List X) (names : List (List ℕ)) (i j : ℕ) (d : X)
    → map f found ≡ take i (map g names) → i < length names → j < i → slice_get names j ≡ slice_get names i
    → slice_get (map g names) i ≡ Some (f (get_or found j d))
same_name f g found names i j d so_far low before same =
    let many : length found ≡ i = found_before f g found names i so_far low in
    let here : get_or (map g names) j (f d) ≡ f (get_or found j d) =
    sym (get_or-take i (map g names) j (f d) before) ∙ ap (λ l. get_or l j (f d)) (sym so_far)
    ∙ get_or-map f found j d (f d) (omega (arith, many, before)) in
    slice_get-map g names i ∙ ap (option_map g) (sym same) ∙ sym (slice_get-map g names j)
    ∙ slice_get-get_or (map g names) j (f d) (omega (arith, low, before, length-map names g))
    ∙ ap (λ y. Some y) here
