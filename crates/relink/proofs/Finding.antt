-- The object of a name among those of a project.
use Rattle.relink.proofs.Common.{Bool, List, None, Some, [], ap, arith, cond, count_by, false, find, get_or}
use Rattle.relink.proofs.Common.{get_or-insert_at, insert, length, list_any, ltb, ltb-false, position, position_or_len}
use Rattle.relink.proofs.Common.{refl, slice_get, suc, sum_by-cons, sym, true, zero, ℕ, ◌+◌, ◌||◌, ◌∙◌, ◌∷◌, ◌≡◌, ◌≤◌}
use Rattle.std.proofs.lemmas.List.Folds.{find_at}

get_past : {X : Type 0} (xs : List X) (i : ℕ) → length xs ≤ i → slice_get xs i ≡ None
get_past [] i l = refl
get_past (x ∷ xs) zero l = absurd (omega (arith, l))
get_past (x ∷ xs) (suc i) l = get_past xs i (omega (arith, l))

none_at : {X : Type 0} (xs : List X) (n : ℕ) (b : Bool) → ltb n (length xs) ≡ b → cond b (Some n) None ≡ None
    → slice_get xs n ≡ None
none_at xs n true e h = absurd (cc)
none_at xs n false e h = get_past xs n (ltb-false n (length xs) e)

pub find_none : {X : Type 0} (f : X → Bool) (xs : List X) → position f xs ≡ None → find f xs ≡ None
find_none f xs h = find_at f xs ∙ none_at xs (position_or_len f xs) (ltb (position_or_len f xs) (length xs)) refl h

some_at : {X : Type 0} (xs : List X) (n i : ℕ) (b : Bool) → cond b (Some n) None ≡ Some i → slice_get xs n
    ≡ slice_get xs i
some_at xs n i true h = let same : n ≡ i = cc in ap (slice_get xs) same
some_at xs n i false h = absurd (cc)

pub find_some : {X : Type 0} (f : X → Bool) (xs : List X) (i : ℕ) → position f xs ≡ Some i → find f xs ≡ slice_get xs i
find_some f xs i h =
    find_at f xs ∙ some_at xs (position_or_len f xs) i (ltb (position_or_len f xs) (length xs)) h

pub get_insert : {X : Type 0} (xs : List X) (i : ℕ) (x : X) → i ≤ length xs → slice_get (insert xs i x) i ≡ Some x
get_insert xs zero x l = refl
get_insert [] (suc i) x l = absurd (omega (arith, l))
get_insert (y ∷ xs) (suc i) x l = get_insert xs i x (omega (arith, l))

-- where two lists with one element put in are the same, and at one place, the elements are
pub same_inserted : {X : Type 0} (xs ys : List X) (i : ℕ) (x y : X) → i ≤ length xs → i ≤ length ys
    → insert xs i x ≡ insert ys i y → x ≡ y
same_inserted xs ys i x y l m e =
    sym (get_or-insert_at xs i x x l) ∙ (ap (λ (zs : List _). get_or zs i x) e ∙ get_or-insert_at ys i y x m)

pub counts_head : {X : Type 0} (f : X → Bool) (x : X) (xs : List X)
    → count_by f (x ∷ xs) ≡ cond (f x) 1 0 + count_by f xs
counts_head f x xs = sum_by-cons (λ y. cond (f y) 1 0) x xs

pub inserted_counts : {X : Type 0} (f : X → Bool) (xs : List X) (i : ℕ) (x : X) → f x ≡ true
    → 1 ≤ count_by f (insert xs i x)
inserted_counts f xs zero x e =
    let head : count_by f (insert xs zero x) ≡ cond (f x) 1 0 + count_by f xs = counts_head f x xs in
    let one : cond {A = ℕ} (f x) 1 0 ≡ 1 = ap (λ (b : Bool). cond b 1 0) e in
    omega (arith, head, one)
inserted_counts f [] (suc i) x e =
    let head : count_by f (insert [] (suc i) x) ≡ cond (f x) 1 0 + count_by f [] = counts_head f x [] in
    let one : cond {A = ℕ} (f x) 1 0 ≡ 1 = ap (λ (b : Bool). cond b 1 0) e in
    omega (arith, head, one)
inserted_counts f (y ∷ xs) (suc i) x e =
    let head : count_by f (insert (y ∷ xs) (suc i) x) ≡ cond (f y) 1 0 + count_by f (insert xs i x) =
    counts_head f y (insert xs i x) in
    let rest : 1 ≤ count_by f (insert xs i x) = inserted_counts f xs i x e in
    omega (arith, head, rest)

not_one : (b : Bool) → cond {A = ℕ} b 1 0 ≡ 0 → b ≡ false
not_one true h = absurd (omega (arith, h))
not_one false h = refl

-- an element that alone passes is found
pub find_only : {X : Type 0} (f : X → Bool) (xs : List X) (i : ℕ) (x : X) → f x ≡ true
    → count_by f (insert xs i x) ≤ 1 → find f (insert xs i x) ≡ Some x
find_only f xs zero x e l = ap (λ (b : Bool). cond b (Some x) (find f xs)) e
find_only f [] (suc i) x e l = ap (λ (b : Bool). cond b (Some x) (find f [])) e
find_only f (y ∷ xs) (suc i) x e l =
    let head : count_by f (insert (y ∷ xs) (suc i) x) ≡ cond (f y) 1 0 + count_by f (insert xs i x) =
    counts_head f y (insert xs i x) in
    let here : 1 ≤ count_by f (insert xs i x) = inserted_counts f xs i x e in
    let none : cond {A = ℕ} (f y) 1 0 ≡ 0 = omega (arith, l, head, here) in
    let fails : f y ≡ false = not_one (f y) none in
    ap (λ (b : Bool). cond b (Some y) (find f (insert xs i x))) fails
    ∙ find_only f xs i x e (omega (arith, l, head))

neither : (a b : Bool) → (a || b) ≡ false → (a ≡ false) × (b ≡ false)
neither true b h = absurd (cc)
neither false b h = (refl, h)

pub any_none : {X : Type 0} (f : X → Bool) (xs : List X) → list_any f xs ≡ false → find f xs ≡ None
any_none f [] h = refl
any_none f (x ∷ xs) h =
    let both = neither (f x) (list_any f xs) h in
    ap (λ (b : Bool). cond b (Some x) (find f xs)) both.0 ∙ any_none f xs both.1
