-- What a staged edit touches, from where its key stands in the orders of keys.
use Rattle.ldmodel_project.proofs.Common.{Bool, ChangesOneObject, Global, IsAmong, List, Listed, NamedObject, None}
use Rattle.ldmodel_project.proofs.Common.{Option, Put, Slab, Some, StagedObjects, Stay, Step, Vec, [], ap, arith, cond}
use Rattle.ldmodel_project.proofs.Common.{count_by, edited_key, entry_at, eq-eqb, eqb-true, false, filter, insert}
use Rattle.ldmodel_project.proofs.Common.{is_other, keys_of, length, length-map, map, map-id, map-map, named_at}
use Rattle.ldmodel_project.proofs.Common.{named_under, nat_eq, next_entry, next_named, position, put_under, refl, subst}
use Rattle.ldmodel_project.proofs.Common.{sym, true, unedited, unwrap_or, ℕ, ◌<◌, ◌∙◌, ◌∷◌, ◌≡◌}
use Rattle.ldmodel_project.specs.Edited.{place_in}
use Rattle.ldmodel_project.specs.declared.staged.Step.TheVariants.{Remove, Move}
use Rattle.ldmodel_project.proofs.Counts.{one_if, map-same, count_by-insert}
use Rattle.ldmodel_project.proofs.Keys.{named_under-map, named_under-entries}
use Rattle.ldmodel_project.proofs.Placed.{placed, IsWithin, map-placed, count_by-placed, filter-placed}
use Rattle.ldmodel_project.proofs.Placed.{position-placed, filter-mapped}

-- the orders before and after the edit are these other keys, with the touched one put in
pub record Touches (order : List ℕ) (s : StagedObjects) (key : ℕ) (base : List ℕ) : Type 0 where
  pub edited : edited_key s.step ≡ Some key
  pub fresh : count_by (nat_eq key) base ≡ 0
  pub within_before : IsWithin s.places.before (length base)
  pub within_after : IsWithin s.places.after (length base)
  pub old : order ≡ placed base s.places.before key
  pub new : s.order.items ≡ placed base s.places.after key

abbrev entry_of : (ℕ → NamedObject) → ℕ → Listed
entry_of f k = record { key = k; named = f k }

-- the keys of entries that are made of an order
pub keys-map : (f : ℕ → NamedObject) (order : List ℕ)
    → keys_of (map (λ j. let e : Listed = record { key = j; named = f j } in e) order) ≡ order
keys-map f order = map-map (λ (e : Listed). e.key) (entry_of f) order ∙ map-id order

-- the other entries, of an order in which the key was put
others-placed : (f : ℕ → NamedObject) (key : ℕ) (base : List ℕ) (place : Option ℕ) → count_by (nat_eq key) base ≡ 0
    → unedited (Some key) (map (entry_of f) (placed base place key)) ≡ map (entry_of f) base
others-placed f key base place fresh =
    filter-mapped (is_other (Some key)) (λ (e : Listed). is_other (Some key) e.key) (entry_of f) (λ k. refl)
    (placed base place key)
    ∙ ap (map (entry_of f)) (filter-placed key base place fresh)

-- and the entry of the key among them
among : (f : ℕ → NamedObject) (key : ℕ) (base : List ℕ) (place : Option ℕ) → count_by (nat_eq key) base ≡ 0
    → IsWithin place (length base) → IsAmong (Some key) place (map (entry_of f) (placed base place key))
among f key base None fresh within = sym (others-placed f key base None fresh)
among f key base (Some p) fresh within =
    let entries : List Listed = map (entry_of f) (insert base p key) in
    let rest : unedited (Some key) entries ≡ map (entry_of f) base = others-placed f key base (Some p) fresh in
    let long : length (unedited (Some key) entries) ≡ length base =
    ap (λ (es : List Listed). length es) rest ∙ length-map base (entry_of f) in
    let here : one_if (nat_eq key key) ≡ 1 = ap one_if (eq-eqb key key refl) in
    let listed : 0 < count_by (nat_eq key) (insert base p key) =
    omega (arith, count_by-insert (nat_eq key) base p key, here) in
    let named : named_under entries key ≡ f key = named_under-map f (insert base p key) key listed in (
      omega (arith, long),
      map-placed (entry_of f) base (Some p) key
          ∙ (ap (λ (es : List Listed). insert es p (entry_of f key)) (sym rest)
          ∙ ap (λ (o : NamedObject). insert (unedited (Some key) entries) p (entry_of (λ _. o) key)) (sym named)),
    )

-- nothing is put under another key than the touched one
put_elsewhere : (step : Step) (key k : ℕ) → edited_key step ≡ Some key → nat_eq k key ≡ false
    → put_under step k ≡ None
put_elsewhere (Put new named) key k edited other =
    let same : new ≡ key = grind arith in
    ap (λ (b : Bool). cond b (Some named) None) (ap (nat_eq k) same ∙ other)
put_elsewhere (Remove old) key k edited other = refl
put_elsewhere (Move moved) key k edited other = refl
put_elsewhere Stay key k edited other = refl

pub arranged : (slots : Slab NamedObject) (order : List ℕ) (s : StagedObjects) (key : ℕ) (base : List ℕ)
    → Touches order s key base → ChangesOneObject (map (entry_at slots) order) s
arranged slots order s key base h = record {
  keys = keys-map (next_named entries s.step) s.order.items;
  orders = as_touched (λ t. filter (is_other t) (keys_of entries) ≡ filter (is_other t) s.order.items)
      (ap (filter (is_other (Some key))) keys
      ∙ (filter-placed key base s.places.before h.fresh
      ∙ sym (ap (filter (is_other (Some key))) h.new ∙ filter-placed key base s.places.after h.fresh)));
  others = as_touched (λ t. unedited t (map next s.order.items) ≡ unedited t entries)
      (ap (λ (ks : List ℕ). unedited (Some key) (map next ks)) h.new
      ∙ (others-placed (next_named entries s.step) key base s.places.after h.fresh
      ∙ (map-same next (entry_at slots) base same_entry
      ∙ (sym (others-placed (named_at slots) key base s.places.before h.fresh)
      ∙ ap (λ (ks : List ℕ). unedited (Some key) (map (entry_at slots) ks)) (sym h.old)))));
  place_before = as_touched (λ t. s.places.before ≡ place_in (keys_of entries) t)
      (sym (ap (position (nat_eq key)) keys ∙ position-placed key base s.places.before h.fresh h.within_before));
  place_after = as_touched (λ t. s.places.after ≡ place_in (keys_of (map next s.order.items)) t)
      (sym (ap (position (nat_eq key)) (keys-map (next_named entries s.step) s.order.items ∙ h.new)
      ∙ position-placed key base s.places.after h.fresh h.within_after));
  before = as_touched (λ t. IsAmong t s.places.before entries)
      (subst (λ (ks : List ℕ). IsAmong (Some key) s.places.before (map (entry_at slots) ks)) (sym h.old)
      (among (named_at slots) key base s.places.before h.fresh h.within_before));
  after = as_touched (λ t. IsAmong t s.places.after (map next s.order.items))
      (subst (λ (ks : List ℕ). IsAmong (Some key) s.places.after (map next ks)) (sym h.new)
      (among (next_named entries s.step) key base s.places.after h.fresh h.within_after));
}
  where
    entries : List Listed
    entries = map (entry_at slots) order

    next : ℕ → Listed
    next = next_entry (map (entry_at slots) order) s.step

    as_touched : (P : Option ℕ → Type 0) → P (Some key) → P (edited_key s.step)
    as_touched P p = subst P (sym h.edited) p

    keys : keys_of (map (entry_at slots) order) ≡ placed base s.places.before key
    keys = keys-map (named_at slots) order ∙ h.old

    listed : (k : ℕ) → 0 < count_by (nat_eq k) base → 0 < count_by (nat_eq k) order
    listed k q =
        let same : count_by (nat_eq k) order ≡ count_by (nat_eq k) (placed base s.places.before key) =
        ap (count_by (nat_eq k)) h.old in
        omega (arith, count_by-placed (nat_eq k) base s.places.before key)

    other_key : (k : ℕ) (b : Bool) → nat_eq k key ≡ b → 0 < count_by (nat_eq k) base → b ≡ false
    other_key k true e q =
        absurd (let none : count_by (nat_eq k) base ≡ 0 =
        ap (λ n. count_by (nat_eq n) base) (eqb-true k key e) ∙ h.fresh in omega arith)
    other_key k false e q = refl

    same_entry : (k : ℕ) → 0 < count_by (nat_eq k) base
        → next_entry (map (entry_at slots) order) s.step k ≡ entry_at slots k
    same_entry k q =
        let none : put_under s.step k ≡ None =
        put_elsewhere s.step key k h.edited (other_key k (nat_eq k key) refl q) in
        ap (λ (o : NamedObject). entry_of (λ _. o) k)
        (ap (λ (o : Option NamedObject). unwrap_or o (named_under (map (entry_at slots) order) k)) none
        ∙ named_under-entries slots order k (listed k q))

unedited-none : (entries : List Listed) → unedited None entries ≡ entries
unedited-none [] = refl
unedited-none (e ∷ es) = ap (λ (xs : List Listed). e ∷ xs) (unedited-none es)

-- an edit that touches no object
pub arranged_same : (slots : Slab NamedObject) (order : List ℕ) (v : Vec ℕ Global) → v.items ≡ order
    → ChangesOneObject (map (entry_at slots) order)
    (record { order = v; step = Stay; places = record { before = None; after = None } })
arranged_same slots order v e = record {
  keys = keys-map (next_named (map (entry_at slots) order) Stay) v.items;
  orders = ap (filter (is_other None)) (keys-map (named_at slots) order ∙ sym e);
  others = ap (unedited None) same;
  place_before = refl;
  place_after = refl;
  before = sym (unedited-none (map (entry_at slots) order));
  after = sym (unedited-none (map (next_entry (map (entry_at slots) order) Stay) v.items));
}
  where
    same : map (next_entry (map (entry_at slots) order) Stay) v.items ≡ map (entry_at slots) order
    same =
        ap (map (next_entry (map (entry_at slots) order) Stay)) e
        ∙ map-same (next_entry (map (entry_at slots) order) Stay) (entry_at slots) order
        (λ k q. ap (λ (o : NamedObject). entry_of (λ _. o) k) (named_under-entries slots order k q))
