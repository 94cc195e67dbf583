-- Lists of objects in which no name stands twice.
use Rattle.ldmodel_project.proofs.Common.{AreNamesDistinct, Bool, List, NamedObject, None, Some, ap, arith, bytes_eq}
use Rattle.ldmodel_project.proofs.Common.{cond, count_by, false, get_or, insert, length, ltb-false, nat_lt, place_of}
use Rattle.ldmodel_project.proofs.Common.{position_or_len, refl, remove, set, sym, true, unnamed, ℕ, ◌+◌, ◌<◌, ◌∙◌, ◌≡◌}
use Rattle.ldmodel_project.proofs.Common.{◌≤◌}
use Rattle.std.proofs.lemmas.Slice.Eq.{bytes_eq-Decides}
use Rattle.std.proofs.lemmas.List.Quantifiers.{position-Some}
use Rattle.ldmodel_project.proofs.Counts.{one_if, count_by-insert, count_by-remove, count_by-set, count_by_none}

-- whether an object has this name
abbrev pub is_named : List ℕ → NamedObject → Bool
is_named name o = bytes_eq o.name name

-- a name that no object has is not counted
pub place_of-none-count : (objects : List NamedObject) (name : List ℕ) → place_of objects name ≡ None
    → count_by (is_named name) objects ≡ 0
place_of-none-count objects name h =
    count_by_none (is_named name) objects
    (ltb-false _ _ (at (nat_lt (position_or_len (is_named name) objects) (length objects)) h))
  where
    at : (b : Bool) → cond b (Some (position_or_len (is_named name) objects)) None ≡ None → b ≡ false
    at true e = cc
    at false e = refl

pub names-insert : (objects : List NamedObject) (at : ℕ) (o : NamedObject) → AreNamesDistinct objects
    → place_of objects o.name ≡ None → AreNamesDistinct (insert objects at o)
names-insert objects at o once unused name =
    split (bytes_eq o.name name) refl (count_by-insert (is_named name) objects at o) (once name)
  where
    split : (b : Bool) → bytes_eq o.name name ≡ b → count_by (is_named name) (insert objects at o)
        ≡ count_by (is_named name) objects + one_if b
        → count_by (is_named name) objects ≤ 1 → count_by (is_named name) (insert objects at o) ≤ 1
    split true same sum one =
        let e : o.name ≡ name = (bytes_eq-Decides o.name name).0 same in
        let none : count_by (is_named name) objects ≡ 0 =
        place_of-none-count objects name (ap (place_of objects) (sym e) ∙ unused) in
        omega arith
    split false same sum one = omega arith

pub names-remove : (objects : List NamedObject) (at : ℕ) → at < length objects → AreNamesDistinct objects
    → AreNamesDistinct (remove objects at)
names-remove objects at h once name = omega (arith, count_by-remove (is_named name) objects at unnamed h, once name)

pub names-moved : (objects : List NamedObject) (from to : ℕ) → from < length objects → AreNamesDistinct objects
    → AreNamesDistinct (insert (remove objects from) to (get_or objects from unnamed))
names-moved objects from to h once name =
    omega (
      arith,
      count_by-remove (is_named name) objects from unnamed h,
      count_by-insert (is_named name) (remove objects from) to (get_or objects from unnamed),
      once name,
    )

-- the name at the place where a name stands
pub name_at_place : (objects : List NamedObject) (name : List ℕ) (i : ℕ) → place_of objects name ≡ Some i
    → (i < length objects) × ((get_or objects i unnamed).name ≡ name)
name_at_place objects name i h =
    let found = position-Some (is_named name) objects i unnamed h in
    (found.0, (bytes_eq-Decides (get_or objects i unnamed).name name).0 found.1)

pub names-set : (objects : List NamedObject) (i : ℕ) (o : NamedObject) → place_of objects o.name ≡ Some i
    → AreNamesDistinct objects → AreNamesDistinct (set objects i o)
names-set objects i o h once name =
    let there = name_at_place objects o.name i h in
    let same : is_named name o ≡ is_named name (get_or objects i unnamed) =
    ap (λ (n : List ℕ). bytes_eq n name) (sym there.1) in
    omega (arith, count_by-set (is_named name) objects i o unnamed there.0 same, once name)
