-- A staged order and step, and the project that they make.
use Rattle.ldmodel_project.proofs.Common.{AreNamesDistinct, Bool, CanStep, ChangesOneObject, Contents, Global}
use Rattle.ldmodel_project.proofs.Common.{IsOrdered, IsStaged, List, Listed, NamedObject, None, Option, Places, Put}
use Rattle.ldmodel_project.proofs.Common.{SameButRoom, Slab, Some, StagedObjects, Stay, Step, Vec, ap, arith, cond}
use Rattle.ldmodel_project.proofs.Common.{count_by, entry_at, eq-eqb, eqb-true, false, get, get_or, get_or-map, insert}
use Rattle.ldmodel_project.proofs.Common.{is_some, key_count, length, length-map, map, map-map, named_at, named_under}
use Rattle.ldmodel_project.proofs.Common.{nat_eq, next_count, next_entry, next_named, place_of, refl, remove, set}
use Rattle.ldmodel_project.proofs.Common.{subst, sym, true, unnamed, unwrap_or, ℕ, ◌+◌, ◌-◌, ◌<◌, ◌∙◌, ◌≡◌, ◌≤◌}
use Rattle.std.proofs.lemmas.List.Edits.{length-remove}
use Rattle.slab.specs.Slab.{slab_len, HasRoomFor}
use Rattle.ldmodel_project.specs.declared.staged.Step.TheVariants.{Remove, Move}
use Rattle.ldmodel_project.proofs.Counts.{one_if, map-same, map-replaced, map-insert, map-remove, count_by-insert}
use Rattle.ldmodel_project.proofs.Counts.{count_by-remove, count_by_at}
use Rattle.ldmodel_project.proofs.Keys.{key_count-entries, named_under-entries}
use Rattle.ldmodel_project.proofs.Places.{objects_shown, objects-entries}
use Rattle.ldmodel_project.proofs.Names.{names-insert, names-remove, names-moved, names-set, name_at_place}
use Rattle.ldmodel_project.proofs.Placed.{insert-remove}
use Rattle.ldmodel_project.proofs.Touching.{arranged, arranged_same}

-- what contracts see of a slab and an order
abbrev pub shown : Slab NamedObject → List ℕ → Contents
shown slots order = record {
  entries = map (entry_at slots) order;
  vacant_key = slots.vacant_key;
  room = slots.capacity - slab_len slots;
}

abbrev pub staged : Vec ℕ Global → Step → Places → StagedObjects
staged order step places = record { order = order; step = step; places = places }

-- only the capacity differs
pub IsOrdered-reserved : (old new : Slab NamedObject) (order : List ℕ) → new ≡ record old { capacity = new.capacity }
    → IsOrdered old order → IsOrdered new order
IsOrdered-reserved old new order e h =
    let same : IsOrdered (record old { capacity = new.capacity }) order =
    record { listed = h.listed; names = h.names } in
    subst (λ (s : Slab NamedObject). IsOrdered s order) (sym e) same

-- only the room differs
pub reserved_same : (old new : Slab NamedObject) (order : List ℕ) → new ≡ record old { capacity = new.capacity }
    → old.capacity ≤ new.capacity
    → SameButRoom (shown old order) (shown new order)
reserved_same old new order e h =
    let same : SameButRoom (shown old order) (shown (record old { capacity = new.capacity }) order) =
    record { same = refl; room = omega (arith, h) } in
    subst (λ (s : Slab NamedObject). SameButRoom (shown old order) (shown s order)) (sym e) same

-- a staged edit from the facts that each needs
pub staged_from : (slots : Slab NamedObject) (order : List ℕ) (v : Vec ℕ Global) (step : Step) (places : Places)
    (next : List ℕ) (objects : List NamedObject)
    → v.items ≡ next
    → ChangesOneObject (map (entry_at slots) order) (staged v step places)
    → ((k : ℕ) → count_by (nat_eq k) next ≡ next_count (map (entry_at slots) order) step k)
    → map (next_named (map (entry_at slots) order) step) next ≡ objects
    → AreNamesDistinct objects
    → CanStep (shown slots order) step
    → IsStaged (shown slots order) (staged v step places) objects
staged_from slots order v step places next objects e arranged keys made names can =
    let entries : List Listed = map (entry_at slots) order in
    let all : map (λ (e : Listed). e.named) (map (next_entry entries step) v.items) ≡ objects =
    map-map (λ (e : Listed). e.named) (next_entry entries step) v.items
    ∙ (ap (map (next_named entries step)) e ∙ made) in
    record {
      fits = record {
        keys = λ k. ap (count_by (nat_eq k)) e ∙ keys k;
        names = subst AreNamesDistinct (sym all) names;
        step = can;
      };
      makes = all;
      arranged = arranged;
    }

-- a key that the slab does not have is not listed
not_listed : (slots : Slab NamedObject) (order : List ℕ) (k : ℕ) → IsOrdered slots order → get slots k ≡ None
    → count_by (nat_eq k) order ≡ 0
not_listed slots order k h none = h.listed k ∙ ap (λ (o : Option NamedObject). cond (is_some o) 1 0) none

-- no key is listed twice
pub listed_once : (slots : Slab NamedObject) (order : List ℕ) (k : ℕ) → IsOrdered slots order
    → count_by (nat_eq k) order ≤ 1
listed_once slots order k h = at (is_some (get slots k)) (h.listed k)
  where
    at : (b : Bool) → count_by (nat_eq k) order ≡ cond b 1 0 → count_by (nat_eq k) order ≤ 1
    at true e = omega arith
    at false e = omega arith

-- the key at a place is listed once
listed_at : (slots : Slab NamedObject) (order : List ℕ) (i k : ℕ) → IsOrdered slots order → i < length order
    → get_or order i 0 ≡ k → count_by (nat_eq k) order ≡ 1
listed_at slots order i k h within e =
    omega (
      arith,
      listed_once slots order k h,
      count_by_at (nat_eq k) order i 0 within (eq-eqb k (get_or order i 0) (sym e)),
    )

-- a key that is listed once is not listed without its place
not_left : (order : List ℕ) (i k : ℕ) → i < length order → get_or order i 0 ≡ k → count_by (nat_eq k) order ≡ 1
    → count_by (nat_eq k) (remove order i) ≡ 0
not_left order i k within e once =
    let here : one_if (nat_eq k (get_or order i 0)) ≡ 1 = ap one_if (eq-eqb k (get_or order i 0) (sym e)) in
    omega (arith, count_by-remove (nat_eq k) order i 0 within)

-- and the order is what is left, with the key put back
put_back : (order : List ℕ) (i k : ℕ) → i < length order → get_or order i 0 ≡ k → order ≡ insert (remove order i) i k
put_back order i k within e =
    sym (ap (insert (remove order i) i) (sym e) ∙ insert-remove order i 0 within)

-- the objects that stay, in the order before
stays : (slots : Slab NamedObject) (order ks : List ℕ) → ((k : ℕ) → count_by (nat_eq k) ks ≤ count_by (nat_eq k) order)
    → map (named_under (map (entry_at slots) order)) ks ≡ map (named_at slots) ks
stays slots order ks h =
    map-same (named_under (map (entry_at slots) order)) (named_at slots) ks (λ k q.
    named_under-entries slots order k (omega (arith, h k)))

pub new_staged : (slots : Slab NamedObject) (order : List ℕ) (at key : ℕ) (o : NamedObject) (v : Vec ℕ Global)
    → IsOrdered slots order → HasRoomFor slots 1 → get slots key ≡ None → key ≡ slots.vacant_key
    → place_of (objects_shown slots order) o.name ≡ None
    → at ≤ length order
    → v.items ≡ insert order at key
    → IsStaged (shown slots order) (staged v (Put key o) (record { before = None; after = Some at }))
    (insert (objects_shown slots order) at o)
new_staged slots order at key o v h room vacant next unused within e =
    let places : Places = record { before = None; after = Some at } in
    staged_from slots order v (Put key o) places (insert order at key) (insert objects at o) e
    (arranged slots order (staged v (Put key o) places) key order (record {
      edited = refl;
      fresh = not_listed slots order key h vacant;
      within_before = tt;
      within_after = within;
      old = refl;
      new = e;
    }))
    (λ k. listed k (nat_eq k key) refl (count_by-insert (nat_eq k) order at key) (key_count-entries slots order k))
    made
    (names-insert objects at o (subst AreNamesDistinct (sym (objects-entries slots order)) h.names) unused) (
      (λ _. (next, omega arith)),
      (λ listed. absurd (omega (arith, key_count-entries slots order key, not_listed slots order key h vacant))),
    )
  where
    entries : List Listed
    entries = map (entry_at slots) order

    objects : List NamedObject
    objects = map (λ (e : Listed). e.named) entries

    listed : (k : ℕ) (b : Bool) → nat_eq k key ≡ b
        → count_by (nat_eq k) (insert order at key) ≡ count_by (nat_eq k) order + one_if (nat_eq k key)
        → key_count (map (entry_at slots) order) k ≡ count_by (nat_eq k) order
        → count_by (nat_eq k) (insert order at key) ≡ cond b 1 (key_count (map (entry_at slots) order) k)
    listed k true same sum count =
        let one : one_if (nat_eq k key) ≡ 1 = ap one_if same in
        let none : count_by (nat_eq k) order ≡ 0 =
        not_listed slots order k h (ap (get slots) (eqb-true k key same) ∙ vacant) in
        omega arith
    listed k false same sum count =
        let zero_more : one_if (nat_eq k key) ≡ 0 = ap one_if same in
        omega arith

    old_named : (k : ℕ) (b : Bool) → nat_eq k key ≡ b → 0 < count_by (nat_eq k) order
        → unwrap_or (cond b (Some o) None) (named_under (map (entry_at slots) order) k) ≡ named_at slots k
    old_named k true same q =
        absurd (let none : count_by (nat_eq k) order ≡ 0 =
        not_listed slots order k h (ap (get slots) (eqb-true k key same) ∙ vacant) in omega arith)
    old_named k false same q = named_under-entries slots order k q

    made : map (next_named (map (entry_at slots) order) (Put key o)) (insert order at key)
        ≡ insert (objects_shown slots order) at o
    made =
        let g : ℕ → NamedObject = next_named (map (entry_at slots) order) (Put key o) in
        let here : g key ≡ o =
        ap (λ b. unwrap_or (cond b (Some o) None) (named_under (map (entry_at slots) order) key))
        (eq-eqb key key refl) in
        let rest : map g order ≡ map (λ (e : Listed). e.named) (map (entry_at slots) order) =
        map-same g (named_at slots) order (λ k q. old_named k (nat_eq k key) refl q)
        ∙ sym (objects-entries slots order) in
        map-insert g order at key
        ∙ (ap (λ os. insert os at (g key)) rest ∙ ap (insert (objects_shown slots order) at) here)

-- a place where a name stands is within the order
pub place_within : (slots : Slab NamedObject) (order name : List ℕ) (at : ℕ)
    → place_of (objects_shown slots order) name ≡ Some at → at < length order
place_within slots order name at place =
    let found = name_at_place (objects_shown slots order) name at place in
    rw (length-map (map (entry_at slots) order) (λ (e : Listed). e.named), length-map order (entry_at slots)) at found.0

pub replaced_staged : (slots : Slab NamedObject) (order : List ℕ) (at key : ℕ) (o : NamedObject) (v : Vec ℕ Global)
    → IsOrdered slots order → get_or order at 0 ≡ key
    → place_of (objects_shown slots order) o.name ≡ Some at
    → v.items ≡ order
    → IsStaged (shown slots order) (staged v (Put key o) (record { before = Some at; after = Some at }))
    (set (objects_shown slots order) at o)
replaced_staged slots order at key o v h there place e =
    let places : Places = record { before = Some at; after = Some at } in
    let back : order ≡ insert (remove order at) at key = put_back order at key within there in
    let long : at ≤ length (remove order at) = omega (arith, length-remove order at within, within) in
    staged_from slots order v (Put key o) places order (set (objects_shown slots order) at o) e
    (arranged slots order (staged v (Put key o) places) key (remove order at) (record {
      edited = refl;
      fresh = not_left order at key within there once;
      within_before = long;
      within_after = long;
      old = back;
      new = e ∙ back;
    }))
    (λ k. listed k (nat_eq k key) refl (key_count-entries slots order k))
    made
    (names-set (objects_shown slots order) at o place
    (subst AreNamesDistinct (sym (objects-entries slots order)) h.names))
    ((λ none. absurd (omega (arith, key_count-entries slots order key, once))), (λ _. same_name))
  where
    within : at < length order
    within = place_within slots order o.name at place

    once : count_by (nat_eq key) order ≡ 1
    once = listed_at slots order at key h within there

    same_name : o.name ≡ (named_under (map (entry_at slots) order) key).name
    same_name =
        let at_place : (get_or (objects_shown slots order) at unnamed).name ≡ o.name =
        (name_at_place (objects_shown slots order) o.name at place).1 in
        let shown_at : get_or (objects_shown slots order) at unnamed ≡ named_at slots key =
        ap (λ os. get_or os at unnamed) (objects-entries slots order)
        ∙ (get_or-map (named_at slots) order at 0 unnamed within ∙ ap (named_at slots) there) in
        let under : named_under (map (entry_at slots) order) key ≡ named_at slots key =
        named_under-entries slots order key (omega (arith, once)) in
        sym at_place ∙ ap (λ (n : NamedObject). n.name) (shown_at ∙ sym under)

    listed : (k : ℕ) (b : Bool) → nat_eq k key ≡ b → key_count (map (entry_at slots) order) k
        ≡ count_by (nat_eq k) order
        → count_by (nat_eq k) order ≡ cond b 1 (key_count (map (entry_at slots) order) k)
    listed k true same count = ap (λ n. count_by (nat_eq n) order) (eqb-true k key same) ∙ once
    listed k false same count = sym count

    old_named : (k : ℕ) (b : Bool) → 0 < count_by (nat_eq k) order
        → unwrap_or (cond b (Some o) None) (named_under (map (entry_at slots) order) k) ≡ cond b o (named_at slots k)
    old_named k true q = refl
    old_named k false q = named_under-entries slots order k q

    made : map (next_named (map (entry_at slots) order) (Put key o)) order ≡ set (objects_shown slots order) at o
    made =
        map-same (next_named (map (entry_at slots) order) (Put key o)) (λ k. cond (nat_eq k key) o (named_at slots k))
        order (λ k q. old_named k (nat_eq k key) q)
        ∙ (map-replaced (named_at slots) o key order at within there (omega (arith, once))
        ∙ ap (λ os. set os at o) (sym (objects-entries slots order)))

pub moved_staged : (slots : Slab NamedObject) (order : List ℕ) (from to key : ℕ) (v : Vec ℕ Global)
    → IsOrdered slots order → from < length order → get_or order from 0 ≡ key
    → to ≤ length (remove order from)
    → v.items ≡ insert (remove order from) to key
    → IsStaged (shown slots order) (staged v (Move key) (record { before = Some from; after = Some to }))
    (insert (remove (objects_shown slots order) from) to (get_or (objects_shown slots order) from unnamed))
moved_staged slots order from to key v h within there goes e =
    let places : Places = record { before = Some from; after = Some to } in
    staged_from slots order v (Move key) places (insert (remove order from) to key)
    (insert (remove (objects_shown slots order) from) to (get_or (objects_shown slots order) from unnamed)) e
    (arranged slots order (staged v (Move key) places) key (remove order from) (record {
      edited = refl;
      fresh = not_left order from key within there (listed_at slots order from key h within there);
      within_before = omega (arith, length-remove order from within);
      within_after = goes;
      old = put_back order from key within there;
      new = e;
    }))
    (λ k. same_count k ∙ sym (key_count-entries slots order k))
    (stays slots order (insert (remove order from) to key) (λ k. omega (arith, same_count k)) ∙ made)
    (subst (λ os. AreNamesDistinct (insert (remove os from) to (get_or os from unnamed)))
    (sym (objects-entries slots order))
    (names-moved (map (named_at slots) order) from to (rw length-map within) h.names))
    tt
  where
    same_count : (k : ℕ) → count_by (nat_eq k) (insert (remove order from) to key) ≡ count_by (nat_eq k) order
    same_count k =
        let same : one_if (nat_eq k (get_or order from 0)) ≡ one_if (nat_eq k key) =
        ap (λ n. one_if (nat_eq k n)) there in
        omega (
          arith,
          count_by-insert (nat_eq k) (remove order from) to key,
          count_by-remove (nat_eq k) order from 0 within,
          same,
        )

    made : map (named_at slots) (insert (remove order from) to key)
        ≡ insert (remove (objects_shown slots order) from) to (get_or (objects_shown slots order) from unnamed)
    made =
        let taken : named_at slots key ≡ get_or (map (named_at slots) order) from unnamed =
        ap (named_at slots) (sym there) ∙ sym (get_or-map (named_at slots) order from 0 unnamed within) in
        map-insert (named_at slots) (remove order from) to key
        ∙ (ap (λ os. insert os to (named_at slots key)) (map-remove (named_at slots) order from)
        ∙ (ap (insert (remove (map (named_at slots) order) from) to) taken
        ∙ ap (λ os. insert (remove os from) to (get_or os from unnamed)) (sym (objects-entries slots order))))

pub removed_staged : (slots : Slab NamedObject) (order : List ℕ) (at key : ℕ) (v : Vec ℕ Global)
    → IsOrdered slots order → at < length order → get_or order at 0 ≡ key
    → v.items ≡ remove order at
    → IsStaged (shown slots order) (staged v (Remove key) (record { before = Some at; after = None }))
    (remove (objects_shown slots order) at)
removed_staged slots order at key v h within there e =
    let places : Places = record { before = Some at; after = None } in
    staged_from slots order v (Remove key) places (remove order at) (remove (objects_shown slots order) at) e
    (arranged slots order (staged v (Remove key) places) key (remove order at) (record {
      edited = refl;
      fresh = not_left order at key within there once;
      within_before = omega (arith, length-remove order at within);
      within_after = tt;
      old = put_back order at key within there;
      new = e;
    }))
    (λ k. listed k (nat_eq k key) refl (key_count-entries slots order k))
    (stays slots order (remove order at) (λ k. omega (arith, count_by-remove (nat_eq k) order at 0 within))
    ∙ (map-remove (named_at slots) order at ∙ ap (λ os. remove os at) (sym (objects-entries slots order))))
    (subst (λ os. AreNamesDistinct (remove os at)) (sym (objects-entries slots order))
    (names-remove (map (named_at slots) order) at (rw length-map within) h.names))
    (omega (arith, key_count-entries slots order key, once))
  where
    once : count_by (nat_eq key) order ≡ 1
    once = listed_at slots order at key h within there

    listed : (k : ℕ) (b : Bool) → nat_eq k key ≡ b → key_count (map (entry_at slots) order) k
        ≡ count_by (nat_eq k) order
        → count_by (nat_eq k) (remove order at) ≡ cond b 0 (key_count (map (entry_at slots) order) k)
    listed k true same count =
        let here : one_if (nat_eq k (get_or order at 0)) ≡ 1 = ap (λ n. one_if (nat_eq k n)) there ∙ ap one_if same in
        let one : count_by (nat_eq k) order ≡ 1 = ap (λ n. count_by (nat_eq n) order) (eqb-true k key same) ∙ once in
        omega (arith, count_by-remove (nat_eq k) order at 0 within)
    listed k false same count =
        let other : one_if (nat_eq k (get_or order at 0)) ≡ 0 = ap (λ n. one_if (nat_eq k n)) there ∙ ap one_if same in
        omega (arith, count_by-remove (nat_eq k) order at 0 within)

pub same_staged : (slots : Slab NamedObject) (order : List ℕ) (v : Vec ℕ Global)
    → IsOrdered slots order → v.items ≡ order
    → IsStaged (shown slots order) (staged v Stay (record { before = None; after = None })) (objects_shown slots order)
same_staged slots order v h e =
    staged_from slots order v Stay (record { before = None; after = None }) order (objects_shown slots order) e
    (arranged_same slots order v e)
    (λ k. sym (key_count-entries slots order k))
    (stays slots order order (λ k. omega arith) ∙ sym (objects-entries slots order))
    (subst AreNamesDistinct (sym (objects-entries slots order)) h.names)
    tt
