-- The names of objects stay pairwise different.
use Rattle.ldmodel_laws.proofs.Common.{AreNamesDistinct, Bool, Change, List, NamedObject, None, Ok, Option, Project}
use Rattle.ldmodel_laws.proofs.Common.{Some, [], ap, arith, bytes_eq, bytes_eq-Decides, cond, count_by, false, get_or}
use Rattle.ldmodel_laws.proofs.Common.{insert, length, list_any, or_parts, refl, remove, set, subst, sym, true, ℕ, ◌+◌}
use Rattle.ldmodel_laws.proofs.Common.{◌<◌, ◌∙◌, ◌∷◌, ◌≡◌, ◌≤◌}
use Rattle.std.proofs.lemmas.List.Quantifiers.{position-Some}
use Rattle.std.proofs.lemmas.List.Sums.{sum_by-cons, sum_by-insert, sum_by-remove, sum_by-set}
use Rattle.ldmodel.specs.Edits.{Add, Replace, Move, Remove, SetScript, Refusal, InUse, has_name, place_of, is_in_use}
use Rattle.ldmodel.specs.Edits.{early_refusal, new_object, unnamed, replaced, moved, removed, After}

-- 1 where the test passes
abbrev one_if : Bool → ℕ
one_if b = cond b 1 0

count_by-insert : {X : Type 0} (p : X → Bool) (xs : List X) (i : ℕ) (x : X) → count_by p (insert xs i x)
    ≡ count_by p xs + one_if (p x)
count_by-insert p xs i x = sum_by-insert (λ y. one_if (p y)) xs i x

count_by-remove : {X : Type 0} (p : X → Bool) (xs : List X) (i : ℕ) (d : X) → i < length xs
    → count_by p (remove xs i) + one_if (p (get_or xs i d)) ≡ count_by p xs
count_by-remove p xs i d h = sum_by-remove (λ y. one_if (p y)) xs i d h

count_by-set : {X : Type 0} (p : X → Bool) (xs : List X) (i : ℕ) (y d : X) → i < length xs → p y ≡ p (get_or xs i d)
    → count_by p (set xs i y) ≡ count_by p xs
count_by-set {X} p xs i y d h e =
    let f : X → ℕ = λ z. cond (p z) 1 0 in
    let same : f y ≡ f (get_or xs i d) = ap (λ b. cond b 1 0) e in
    omega (arith, sum_by-set f xs i y d h, same)

-- where no member passes, none is counted
count_by-none : {X : Type 0} (p : X → Bool) (xs : List X) → list_any p xs ≡ false → count_by p xs ≡ 0
count_by-none p [] h = refl
count_by-none {X} p (x ∷ xs) h =
    let parts = or_parts (p x) (list_any p xs) h in
    let here : one_if (p x) ≡ 0 = ap one_if parts.0 in
    let rest : count_by p xs ≡ 0 = count_by-none p xs parts.1 in
    let split = sum_by-cons (λ (y : X). one_if (p y)) x xs in
    omega (arith, split, here, rest)

names-insert : (objects : List NamedObject) (at : ℕ) (o : NamedObject) → AreNamesDistinct objects
    → is_in_use objects o.name ≡ false → AreNamesDistinct (insert objects at o)
names-insert objects at o once unused name =
    split (bytes_eq o.name name) refl (count_by-insert (has_name name) objects at o) (once name)
  where
    split : (b : Bool) → bytes_eq o.name name ≡ b → count_by (has_name name) (insert objects at o)
        ≡ count_by (has_name name) objects + one_if b
        → count_by (has_name name) objects ≤ 1 → count_by (has_name name) (insert objects at o) ≤ 1
    split true same sum one =
        let e : o.name ≡ name = (bytes_eq-Decides o.name name).0 same in
        let none : count_by (has_name name) objects ≡ 0 =
        count_by-none (has_name name) objects (ap (is_in_use objects) (sym e) ∙ unused) in
        omega arith
    split false same sum one = omega arith

names-remove : (objects : List NamedObject) (at : ℕ) → at < length objects → AreNamesDistinct objects
    → AreNamesDistinct (remove objects at)
names-remove objects at h once name = omega (arith, count_by-remove (has_name name) objects at unnamed h, once name)

names-moved : (objects : List NamedObject) (from to : ℕ) → from < length objects → AreNamesDistinct objects
    → AreNamesDistinct (insert (remove objects from) to (get_or objects from unnamed))
names-moved objects from to h once name =
    omega (
      arith,
      count_by-remove (has_name name) objects from unnamed h,
      count_by-insert (has_name name) (remove objects from) to (get_or objects from unnamed),
      once name,
    )

-- the name at the place where a name stands
name_at_place : (objects : List NamedObject) (name : List ℕ) (i : ℕ) → place_of objects name ≡ Some i
    → (i < length objects) × ((get_or objects i unnamed).name ≡ name)
name_at_place objects name i h =
    let found = position-Some (has_name name) objects i unnamed h in
    (found.0, (bytes_eq-Decides (get_or objects i unnamed).name name).0 found.1)

names-set : (objects : List NamedObject) (i : ℕ) (o : NamedObject) → place_of objects o.name ≡ Some i
    → AreNamesDistinct objects → AreNamesDistinct (set objects i o)
names-set objects i o h once name =
    let there = name_at_place objects o.name i h in
    let same : has_name name o ≡ has_name name (get_or objects i unnamed) =
    ap (λ (n : List ℕ). bytes_eq n name) (sym there.1) in
    omega (arith, count_by-set (has_name name) objects i o unnamed there.0 same, once name)

unused_if : (b : Bool) (o : Option Refusal) → cond b (Some InUse) o ≡ None → b ≡ false
unused_if true o h = cc
unused_if false o h = refl

unused : (p : Project) (name : List ℕ) (at : ℕ) (bytes : List ℕ) → early_refusal p (Add name at bytes) ≡ None
    → is_in_use p.objects name ≡ false
unfolding early_refusal
unused p name at bytes h = unused_if (is_in_use p.objects name) _ h

replaced_names : (objects : List NamedObject) (o : NamedObject) (place : Option ℕ) → place_of objects o.name ≡ place
    → AreNamesDistinct objects → AreNamesDistinct (replaced objects o place)
replaced_names objects o None h once = once
replaced_names objects o (Some i) h once = names-set objects i o h once

moved_names : (objects : List NamedObject) (name : List ℕ) (to : ℕ) (place : Option ℕ) → place_of objects name ≡ place
    → AreNamesDistinct objects → AreNamesDistinct (moved objects to place)
moved_names objects name to None h once = once
moved_names objects name to (Some i) h once = names-moved objects i to (name_at_place objects name i h).0 once

removed_names : (objects : List NamedObject) (name : List ℕ) (place : Option ℕ) → place_of objects name ≡ place
    → AreNamesDistinct objects → AreNamesDistinct (removed objects place)
removed_names objects name None h once = once
removed_names objects name (Some i) h once = names-remove objects i (name_at_place objects name i h).0 once

abbrev HasDistinctNames : Project → Type 0
HasDistinctNames p = AreNamesDistinct p.objects

pub names_stay_distinct : (p q : Project) (c : Change) → AreNamesDistinct p.objects → After p c (Ok q)
    → AreNamesDistinct q.objects
names_stay_distinct p q (Add name at bytes) once a =
    subst HasDistinctNames (sym a.1.1) (names-insert p.objects at (new_object name bytes) once
    (unused p name at bytes a.0))
names_stay_distinct p q (Replace name bytes) once a =
    subst HasDistinctNames (sym a.1.1) (replaced_names p.objects (new_object name bytes)
    (place_of p.objects name) refl once)
names_stay_distinct p q (Move name to) once a =
    subst HasDistinctNames (sym a.1) (moved_names p.objects name to (place_of p.objects name) refl once)
names_stay_distinct p q (Remove name) once a =
    subst HasDistinctNames (sym a.1) (removed_names p.objects name (place_of p.objects name) refl once)
names_stay_distinct p q (SetScript text) once a = subst HasDistinctNames (sym a.1.2) once
