-- What is under a key: before a step, after it, and in a slab.
use Rattle.ldmodel_project.proofs.Common.{AreKeysDistinct, Bool, Contents, Fits, IsOrdered, List, Listed, NamedObject}
use Rattle.ldmodel_project.proofs.Common.{None, Option, Put, Slab, Some, StagedObjects, Stay, Step, [], ap, arith, cond}
use Rattle.ldmodel_project.proofs.Common.{count_by, entry_at, eqb-true, false, found_under, get, get_or, is_some}
use Rattle.ldmodel_project.proofs.Common.{key_count, keys_of, le-ltb, length, list_any, lt-ltb, map, named_at}
use Rattle.ldmodel_project.proofs.Common.{named_under, nat_eq, nat_lt, next_count, next_entries, next_found, next_named}
use Rattle.ldmodel_project.proofs.Common.{option_map, position, refl, slice_get, sum_by-cons, sym, true, unnamed}
use Rattle.ldmodel_project.proofs.Common.{unwrap_or, ℕ, ◌+◌, ◌<◌, ◌||◌, ◌∙◌, ◌∷◌, ◌≡◌, ◌≤◌}
use Rattle.std.proofs.lemmas.Option.{slice_get-map, slice_get_read, slice_get_past}
use Rattle.ldmodel_project.specs.declared.staged.Step.TheVariants.{Remove, Move}
use Rattle.ldmodel_project.proofs.Keys.{key_count-entries, named_under-entries}
use Rattle.ldmodel_project.proofs.Places.{in_use_of, objects_shown, objects-entries}

-- an object, where the count says that there is one
abbrev found_if : ℕ → NamedObject → Option NamedObject
found_if n o = cond (nat_lt 0 n) (Some o) None

pub found_under-counted : (entries : List Listed) (k : ℕ) → found_under entries k
    ≡ found_if (key_count entries k) (named_under entries k)
found_under-counted [] k = refl
found_under-counted (e ∷ es) k =
    at (nat_eq k e.key) (key_count (e ∷ es) k) (sum_by-cons (λ (x : Listed). cond (nat_eq k x.key) 1 0) e es)
    (found_under-counted es k)
  where
    at : (b : Bool) (n : ℕ) → n ≡ cond b 1 0 + key_count es k
        → found_under es k ≡ found_if (key_count es k) (named_under es k)
        → cond b (Some e.named) (found_under es k)
        ≡ found_if n (unwrap_or (cond b (Some e.named) (found_under es k)) unnamed)
    at true n split later =
        sym (ap (λ (c : Bool). cond c (Some e.named) None) (lt-ltb 0 n (omega arith)))
    at false n split later =
        let same : n ≡ key_count es k = omega arith in
        later ∙ sym (ap (λ (m : ℕ). found_if m (named_under es k)) same)

-- where a key is listed, and where it isn't
pub found_listed : (entries : List Listed) (k : ℕ) → 0 < key_count entries k
    → found_under entries k ≡ Some (named_under entries k)
found_listed entries k h =
    found_under-counted entries k
    ∙ ap (λ (c : Bool). cond c (Some (named_under entries k)) None) (lt-ltb 0 (key_count entries k) h)

pub found_unlisted : (entries : List Listed) (k : ℕ) → key_count entries k ≡ 0 → found_under entries k ≡ None
found_unlisted entries k h =
    found_under-counted entries k
    ∙ ap (λ (c : Bool). cond c (Some (named_under entries k)) None) (le-ltb 0 (key_count entries k) (omega arith))

-- in a slab
pub found_under-entries : (slots : Slab NamedObject) (order : List ℕ) (k : ℕ) → IsOrdered slots order
    → found_under (map (entry_at slots) order) k ≡ get slots k
found_under-entries slots order k h =
    at (get slots k) (h.listed k) (key_count-entries slots order k) refl
  where
    at : (o : Option NamedObject) → count_by (nat_eq k) order ≡ cond (is_some o) 1 0
        → key_count (map (entry_at slots) order) k ≡ count_by (nat_eq k) order → get slots k ≡ o
        → found_under (map (entry_at slots) order) k ≡ o
    at None listed counted e = found_unlisted (map (entry_at slots) order) k (omega arith)
    at (Some o) listed counted e =
        found_listed (map (entry_at slots) order) k (omega arith)
        ∙ ap Some (named_under-entries slots order k (omega arith)
        ∙ ap (λ (x : Option NamedObject). unwrap_or x unnamed) e)

-- and by place
pub object_at : (slots : Slab NamedObject) (order : List ℕ) (place key : ℕ) (o : NamedObject) → place < length order
    → key ≡ get_or order place key → get slots key ≡ Some o → slice_get (objects_shown slots order) place ≡ Some o
object_at slots order place key o within there e =
    ap (λ (os : List NamedObject). slice_get os place) (objects-entries slots order)
    ∙ (slice_get-map (named_at slots) order place
    ∙ (ap (option_map (named_at slots)) (slice_get_read order (length order) place key refl within there)
    ∙ ap (λ (x : Option NamedObject). Some (unwrap_or x unnamed)) e))

pub object_past : (slots : Slab NamedObject) (order : List ℕ) (place : ℕ) → length order ≤ place
    → slice_get (objects_shown slots order) place ≡ None
object_past slots order place past =
    ap (λ (os : List NamedObject). slice_get os place) (objects-entries slots order)
    ∙ (slice_get-map (named_at slots) order place
    ∙ ap (option_map (named_at slots)) (slice_get_past order place past))

-- where the objects under the keys of a list are given
pub found_under-map : (f : ℕ → NamedObject) (order : List ℕ) (k : ℕ)
    → found_under (map (λ j. let e : Listed = record { key = j; named = f j } in e) order) k
    ≡ found_if (count_by (nat_eq k) order) (f k)
found_under-map f [] k = refl
found_under-map f (x ∷ xs) k =
    at (nat_eq k x) refl (count_by (nat_eq k) (x ∷ xs)) (sum_by-cons (λ (y : ℕ). cond (nat_eq k y) 1 0) x xs)
    (found_under-map f xs k)
  where
    at : (b : Bool) → nat_eq k x ≡ b → (n : ℕ) → n ≡ cond b 1 0 + count_by (nat_eq k) xs
        → found_under (map (λ j. let e : Listed = record { key = j; named = f j } in e) xs) k
        ≡ found_if (count_by (nat_eq k) xs) (f k)
        → cond b (Some (f x)) (found_under (map (λ j. let e : Listed = record { key = j; named = f j } in e) xs) k)
        ≡ found_if n (f k)
    at true e n split later =
        ap (λ j. Some (f j)) (sym (eqb-true k x e))
        ∙ sym (ap (λ (c : Bool). cond c (Some (f k)) None) (lt-ltb 0 n (omega arith)))
    at false e n split later =
        let same : n ≡ count_by (nat_eq k) xs = omega arith in
        later ∙ sym (ap (λ (m : ℕ). found_if m (f k)) same)

-- after a step
pub found_under-next : (c : Contents) (s : StagedObjects) (k : ℕ) → Fits c s
    → found_under (next_entries c.entries s) k ≡ next_found c.entries s.step k
found_under-next c s k h =
    at s.step (count_by (nat_eq k) s.order.items) (h.keys k)
    (found_under-map (next_named c.entries s.step) s.order.items k)
  where
    by_new : (named : NamedObject) (b : Bool) (n : ℕ) → n ≡ cond b 1 (key_count c.entries k)
        → found_under (next_entries c.entries s) k
        ≡ found_if n (unwrap_or (cond b (Some named) None) (named_under c.entries k))
        → found_under (next_entries c.entries s) k ≡ cond b (Some named) (found_under c.entries k)
    by_new named true n counted found =
        found ∙ ap (λ (x : Bool). cond x (Some named) None) (lt-ltb 0 n (omega arith))
    by_new named false n counted found =
        found ∙ (ap (λ (m : ℕ). found_if m (named_under c.entries k)) counted ∙ sym (found_under-counted c.entries k))

    by_old : (b : Bool) (n : ℕ) → n ≡ cond b 0 (key_count c.entries k)
        → found_under (next_entries c.entries s) k ≡ found_if n (named_under c.entries k)
        → found_under (next_entries c.entries s) k ≡ cond b None (found_under c.entries k)
    by_old true n counted found =
        found ∙ ap (λ (x : Bool). cond x (Some (named_under c.entries k)) None) (le-ltb 0 n (omega arith))
    by_old false n counted found =
        found ∙ (ap (λ (m : ℕ). found_if m (named_under c.entries k)) counted ∙ sym (found_under-counted c.entries k))

    at : (step : Step) (n : ℕ) → n ≡ next_count c.entries step k
        → found_under (next_entries c.entries s) k ≡ found_if n (next_named c.entries step k)
        → found_under (next_entries c.entries s) k ≡ next_found c.entries step k
    at (Put new named) n counted found = by_new named (nat_eq k new) n counted found
    at (Remove old) n counted found = by_old (nat_eq k old) n counted found
    at (Move moved) n counted found = by_old false n counted found
    at Stay n counted found = by_old false n counted found

-- a list of entries has a key as often as their keys do
pub key_count-keys : (entries : List Listed) (k : ℕ) → key_count entries k ≡ count_by (nat_eq k) (keys_of entries)
key_count-keys [] k = refl
key_count-keys (e ∷ es) k =
    let later : key_count es k ≡ count_by (nat_eq k) (keys_of es) = key_count-keys es k in
    omega (
      arith,
      sum_by-cons (λ (x : Listed). cond (nat_eq k x.key) 1 0) e es,
      sum_by-cons (λ (x : ℕ). cond (nat_eq k x) 1 0) e.key (keys_of es),
    )

-- no key stands twice after a step either
pub next_distinct : (c : Contents) (s : StagedObjects) → Fits c s → AreKeysDistinct (keys_of c.entries)
    → AreKeysDistinct s.order.items
next_distinct c s h distinct k = omega (arith, h.keys k, bound s.step, key_count-keys c.entries k, distinct k)
  where
    unless : (b : Bool) (n : ℕ) → n ≤ 1 → key_count c.entries k ≤ 1 → cond b n (key_count c.entries k) ≤ 1
    unless true n few once = few
    unless false n few once = once

    once : key_count c.entries k ≤ 1
    once = omega (arith, key_count-keys c.entries k, distinct k)

    bound : (step : Step) → next_count c.entries step k ≤ 1
    bound (Put new named) = unless (nat_eq k new) 1 (omega arith) once
    bound (Remove old) = unless (nat_eq k old) 0 (omega arith) once
    bound (Move moved) = once
    bound Stay = once

-- a key stands somewhere exactly where an object is under it
pub found-placed : (entries : List Listed) (k : ℕ)
    → is_some (position (nat_eq k) (keys_of entries)) ≡ is_some (found_under entries k)
found-placed entries k = in_use_of (nat_eq k) (keys_of entries) ∙ any entries
  where
    either : (b c : Bool) (o p : Option NamedObject) → is_some o ≡ true → c ≡ is_some p
        → (b || c) ≡ is_some (cond b o p)
    either true c o p some e = sym some
    either false c o p some e = e

    any : (es : List Listed) → list_any (nat_eq k) (keys_of es) ≡ is_some (found_under es k)
    any [] = refl
    any (e ∷ es) = either (nat_eq k e.key) (list_any (nat_eq k) (keys_of es)) (Some e.named)
        (found_under es k) refl (any es)
