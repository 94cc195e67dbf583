-- Where an object with a name stands.
use Rattle.ldmodel_project.proofs.Common.{Bool, List, Listed, NamedObject, None, Slab, Some, [], ap, arith, bytes_eq}
use Rattle.ldmodel_project.proofs.Common.{cond, entry_at, false, get_or, get_or-map, is_some, le-ltb, length}
use Rattle.ldmodel_project.proofs.Common.{length-map, list_any, lt-ltb, ltb-false, ltb-true, map, map-map, named_at}
use Rattle.ldmodel_project.proofs.Common.{nat_lt, not, place_of, position, position_or_len, position_or_len_is, refl}
use Rattle.ldmodel_project.proofs.Common.{true, unnamed, ℕ, ◌+◌, ◌<◌, ◌||◌, ◌∙◌, ◌∷◌, ◌≡◌}
use Rattle.ldmodel.specs.Edits.{has_name, is_in_use}

pub position-some : {X : Type 0} (p : X → Bool) (xs : List X) (i : ℕ) (d : X) → i < length xs
    → ((k : ℕ) → k < i → p (get_or xs k d) ≡ false) → p (get_or xs i d) ≡ true
    → position p xs ≡ Some i
position-some p xs i d h before here =
    let at : position_or_len p xs ≡ i = position_or_len_is p xs i d (omega arith) before (λ _. here) in
    rw at (ap (λ b. cond b (Some i) None) (lt-ltb i (length xs) h))

pub position-none : {X : Type 0} (p : X → Bool) (xs : List X) (d : X)
    → ((k : ℕ) → k < length xs → p (get_or xs k d) ≡ false) → position p xs ≡ None
position-none p xs d before =
    let at : position_or_len p xs ≡ length xs =
    position_or_len_is p xs (length xs) d (omega arith) before (λ h. absurd (omega arith)) in
    rw at (ap (λ b. cond b (Some (length xs)) None) (le-ltb (length xs) (length xs) (omega arith)))

abbrev pub is_named_at : Slab NamedObject → List ℕ → List ℕ → ℕ → Bool
is_named_at slots order name i = bytes_eq (named_at slots (get_or order i 0)).name name

-- the test of a name, at an element of the mapped list
named_there : (slots : Slab NamedObject) (order name : List ℕ) (i : ℕ) (b : Bool) → i < length order
    → is_named_at slots order name i ≡ b
    → bytes_eq (get_or (map (named_at slots) order) i unnamed).name name ≡ b
named_there slots order name i b h e =
    ap (λ (o : NamedObject). bytes_eq o.name name) (get_or-map (named_at slots) order i 0 unnamed h) ∙ e

-- the objects that the entries show
abbrev pub objects_shown : Slab NamedObject → List ℕ → List NamedObject
objects_shown slots order = map (λ (e : Listed). e.named) (map (entry_at slots) order)

pub objects-entries : (slots : Slab NamedObject) (order : List ℕ)
    → map (λ (e : Listed). e.named) (map (entry_at slots) order) ≡ map (named_at slots) order
objects-entries slots order = map-map (λ (e : Listed). e.named) (entry_at slots) order

pub place_of-some : (slots : Slab NamedObject) (order name : List ℕ) (i : ℕ) → i < length order
    → ((k : ℕ) → k < i → is_named_at slots order name k ≡ false) → is_named_at slots order name i ≡ true
    → place_of (objects_shown slots order) name ≡ Some i
place_of-some slots order name i h before here =
    ap (λ objects. place_of objects name) (objects-entries slots order)
    ∙ position-some (λ (o : NamedObject). bytes_eq o.name name) (map (named_at slots) order) i unnamed (rw length-map h)
    (λ k q. named_there slots order name k false (omega arith) (before k q))
    (named_there slots order name i true h here)

pub place_of-none : (slots : Slab NamedObject) (order name : List ℕ)
    → ((k : ℕ) → k < length order → is_named_at slots order name k ≡ false)
    → place_of (objects_shown slots order) name ≡ None
place_of-none slots order name before =
    ap (λ objects. place_of objects name) (objects-entries slots order)
    ∙ position-none (λ (o : NamedObject). bytes_eq o.name name) (map (named_at slots) order) unnamed
    (λ k q. let h : k < length order = rw (length-map order (named_at slots)) at q in
    named_there slots order name k false h (before k h))

-- an element passes at a place exactly where one passes at all
lt_any : {X : Type 0} (p : X → Bool) (xs : List X) → nat_lt (position_or_len p xs) (length xs) ≡ list_any p xs
lt_any p [] = refl
lt_any p (x ∷ xs) = at (p x) (lt_any p xs)
  where
    one_more : (k n m : ℕ) (b : Bool) → m ≡ n + 1 → nat_lt k n ≡ b → nat_lt (1 + k) m ≡ b
    one_more k n m true e h = lt-ltb (1 + k) m (omega (arith, ltb-true k n h))
    one_more k n m false e h = le-ltb (1 + k) m (omega (arith, ltb-false k n h))

    at : (b : Bool) → nat_lt (position_or_len p xs) (length xs) ≡ list_any p xs
        → nat_lt (cond (not b) (1 + position_or_len p xs) 0) (length (x ∷ xs)) ≡ (b || list_any p xs)
    at true later = lt-ltb 0 (length (x ∷ xs)) (omega arith)
    at false later = one_more (position_or_len p xs) (length xs) (length (x ∷ xs)) (list_any p xs) (omega arith) later

is_some-cond : {X : Type 0} (b : Bool) (x : X) → is_some (cond b (Some x) None) ≡ b
is_some-cond true x = refl
is_some-cond false x = refl

pub in_use_of : {X : Type 0} (p : X → Bool) (xs : List X) → is_some (position p xs) ≡ list_any p xs
in_use_of p xs = is_some-cond (nat_lt (position_or_len p xs) (length xs)) (position_or_len p xs) ∙ lt_any p xs

-- a name stands somewhere exactly where an object has it
pub in_use : (objects : List NamedObject) (name : List ℕ) → is_some (place_of objects name) ≡ is_in_use objects name
in_use objects name = in_use_of (has_name name) objects
