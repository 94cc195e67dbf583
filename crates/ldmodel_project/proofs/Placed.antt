-- Lists in which one key stands at a place among others, or not at all.
use Rattle.ldmodel_project.proofs.Common.{Bool, IfSome, List, None, Option, Some, [], ap, arith, cond, count_by, drop}
use Rattle.ldmodel_project.proofs.Common.{drop_at, eq-eqb, eqb-true, false, filter, get_or, insert, is_other, length}
use Rattle.ldmodel_project.proofs.Common.{length-take-le, map, nat_eq, not, position, refl, remove, set-get_or}
use Rattle.ldmodel_project.proofs.Common.{set_split, suc, sum_by-cons, sym, take, take-append-drop, take_at, true, ℕ}
use Rattle.ldmodel_project.proofs.Common.{◌++◌, ◌+◌, ◌<◌, ◌∙◌, ◌∷◌, ◌≡◌, ◌≤◌}
use Rattle.std.proofs.lemmas.List.Edits.{length-insert, get_or-insert_below, get_or-insert_at}
use Rattle.std.proofs.lemmas.List.Elements.{filter-append}
use Rattle.ldmodel_project.proofs.Counts.{one_if, count_by_at, count_by-insert, map-insert}
use Rattle.ldmodel_project.proofs.Places.{position-some, position-none}

-- the element is put in at a place, or not at all
abbrev pub placed : {X : Type 0} → List X → Option ℕ → X → List X
placed xs None x = xs
placed xs (Some p) x = insert xs p x

-- the place is one of a list that long, or its end
abbrev pub IsWithin : Option ℕ → ℕ → Type 0
IsWithin place n = IfSome place (λ p. p ≤ n)

pub map-placed : {X Y : Type 0} (f : X → Y) (xs : List X) (place : Option ℕ) (x : X) → map f (placed xs place x)
    ≡ placed (map f xs) place (f x)
map-placed f xs None x = refl
map-placed f xs (Some p) x = map-insert f xs p x

pub count_by-placed : {X : Type 0} (p : X → Bool) (xs : List X) (place : Option ℕ) (x : X)
    → count_by p xs ≤ count_by p (placed xs place x)
count_by-placed p xs None x = omega arith
count_by-placed p xs (Some i) x = omega (arith, count_by-insert p xs i x)

-- a key that isn't counted stands nowhere
pub not_counted : (k : ℕ) (xs : List ℕ) (j : ℕ) → count_by (nat_eq k) xs ≡ 0 → j < length xs
    → nat_eq k (get_or xs j 0) ≡ false
not_counted k xs j none h = at (nat_eq k (get_or xs j 0)) refl
  where
    at : (b : Bool) → nat_eq k (get_or xs j 0) ≡ b → b ≡ false
    at true e = absurd (omega (arith, count_by_at (nat_eq k) xs j 0 h e))
    at false e = refl

-- two numbers are equal in either order
nat_eq-flipped : (x y : ℕ) → nat_eq x y ≡ nat_eq y x
nat_eq-flipped x y = at (nat_eq x y) (nat_eq y x) refl refl
  where
    at : (b c : Bool) → nat_eq x y ≡ b → nat_eq y x ≡ c → b ≡ c
    at true true e f = refl
    at true false e f = absurd (let same : nat_eq y x ≡ true = eq-eqb y x (sym (eqb-true x y e)) in cc)
    at false true e f = absurd (let same : nat_eq x y ≡ true = eq-eqb x y (sym (eqb-true y x f)) in cc)
    at false false e f = refl

-- the other keys are all where this one isn't counted
pub filter_other : (k : ℕ) (xs : List ℕ) → count_by (nat_eq k) xs ≡ 0 → filter (is_other (Some k)) xs ≡ xs
filter_other k [] none = refl
filter_other k (x ∷ xs) none =
    at (nat_eq x k) (ap one_if (nat_eq-flipped k x))
    (sum_by-cons (λ (y : ℕ). cond (nat_eq k y) 1 0) x xs) (filter_other k xs)
  where
    at : (b : Bool) → one_if (nat_eq k x) ≡ one_if b
        → count_by (nat_eq k) (x ∷ xs) ≡ one_if (nat_eq k x) + count_by (nat_eq k) xs
        → (count_by (nat_eq k) xs ≡ 0 → filter (is_other (Some k)) xs ≡ xs)
        → cond (not b) (x ∷ filter (is_other (Some k)) xs) (filter (is_other (Some k)) xs) ≡ x ∷ xs
    at true one split later = absurd (omega arith)
    at false one split later = ap (λ (ys : List ℕ). x ∷ ys) (later (omega arith))

pub filter-placed : (k : ℕ) (xs : List ℕ) (place : Option ℕ) → count_by (nat_eq k) xs ≡ 0
    → filter (is_other (Some k)) (placed xs place k) ≡ xs
filter-placed k xs None none = filter_other k xs none
filter-placed k xs (Some p) none =
    filter-append (is_other (Some k)) (take p xs) (k ∷ drop p xs)
    ∙ (ap (λ (ys : List ℕ). filter (is_other (Some k)) (take p xs) ++ ys) (here (nat_eq k k) (eq-eqb k k refl))
    ∙ (sym (filter-append (is_other (Some k)) (take p xs) (drop p xs))
    ∙ (ap (filter (is_other (Some k))) (take-append-drop p xs) ∙ filter_other k xs none)))
  where
    here : (b : Bool) → b ≡ true
        → cond (not b) (k ∷ filter (is_other (Some k)) (drop p xs)) (filter (is_other (Some k)) (drop p xs))
        ≡ filter (is_other (Some k)) (drop p xs)
    here true e = refl
    here false e = cc

-- the key stands where it was put
pub position-placed : (k : ℕ) (xs : List ℕ) (place : Option ℕ) → count_by (nat_eq k) xs ≡ 0
    → IsWithin place (length xs) → position (nat_eq k) (placed xs place k) ≡ place
position-placed k xs None none h = position-none (nat_eq k) xs 0 (λ j q. not_counted k xs j none q)
position-placed k xs (Some p) none h =
    position-some (nat_eq k) (insert xs p k) p 0 (omega (arith, length-insert xs p k h))
    (λ j q. ap (nat_eq k) (get_or-insert_below xs p k 0 j q h) ∙ not_counted k xs j none (omega arith))
    (eq-eqb k (get_or (insert xs p k) p 0) (sym (get_or-insert_at xs p k 0 h)))

-- an element that is taken out and put in again
pub insert-remove : {X : Type 0} (xs : List X) (i : ℕ) (d : X) → i < length xs
    → insert (remove xs i) i (get_or xs i d) ≡ xs
insert-remove {X} xs i d h =
    let long : length (take i xs) ≡ i = length-take-le i xs (omega arith) in
    let front : take i (remove xs i) ≡ take i xs = take_at (take i xs) (drop (suc i) xs) i long in
    let back : drop i (remove xs i) ≡ drop (suc i) xs = drop_at (take i xs) (drop (suc i) xs) i long in
    ap (λ (ys : List X). ys ++ get_or xs i d ∷ drop i (remove xs i)) front
    ∙ (ap (λ (ys : List X). take i xs ++ get_or xs i d ∷ ys) back
    ∙ (sym (set_split xs i (get_or xs i d) h) ∙ set-get_or xs i d))

-- one test of elements and of what they are mapped to
pub filter-mapped : {X Y : Type 0} (p : X → Bool) (q : Y → Bool) (f : X → Y) → ((x : X) → q (f x) ≡ p x) → (xs : List X)
    → filter q (map f xs) ≡ map f (filter p xs)
filter-mapped p q f same [] = refl
filter-mapped {X} {Y} p q f same (x ∷ xs) = at (p x) (q (f x)) (same x) (filter-mapped p q f same xs)
  where
    at : (b c : Bool) → c ≡ b → filter q (map f xs) ≡ map f (filter p xs)
        → cond c (f x ∷ filter q (map f xs)) (filter q (map f xs)) ≡ map f (cond b (x ∷ filter p xs) (filter p xs))
    at true true e later = ap (λ (ys : List Y). f x ∷ ys) later
    at true false e later = cc
    at false true e later = cc
    at false false e later = later
