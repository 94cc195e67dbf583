-- Objects of a slab in an order of keys, seen as entries.
use Rattle.ldmodel_project.proofs.Common.{Bool, List, Listed, NamedObject, Slab, Some, [], ap, arith, cond, count_by}
use Rattle.ldmodel_project.proofs.Common.{entry_at, eqb-true, false, found_under, key_count, map, named_at, named_under}
use Rattle.ldmodel_project.proofs.Common.{nat_eq, refl, sum_by-cons, sym, true, unnamed, unwrap_or, ℕ, ◌+◌, ◌<◌, ◌∷◌}
use Rattle.ldmodel_project.proofs.Common.{◌≡◌}

-- the entries list the keys of the order
pub key_count-map : (f : ℕ → NamedObject) (order : List ℕ) (k : ℕ)
    → key_count (map (λ j. let e : Listed = record { key = j; named = f j } in e) order) k ≡ count_by (nat_eq k) order
key_count-map f [] k = refl
key_count-map f (x ∷ xs) k =
    let later : key_count (map (λ j. let e : Listed = record { key = j; named = f j } in e) xs) k
    ≡ count_by (nat_eq k) xs = key_count-map f xs k in
    omega (
      arith,
      sum_by-cons (λ (z : ℕ). cond (nat_eq k z) 1 0) x xs,
      sum_by-cons (λ (e : Listed). cond (nat_eq k e.key) 1 0) (record { key = x; named = f x })
          (map (λ j. let e : Listed = record { key = j; named = f j } in e) xs),
    )

pub key_count-entries : (slots : Slab NamedObject) (order : List ℕ) (k : ℕ) → key_count (map (entry_at slots) order) k
    ≡ count_by (nat_eq k) order
key_count-entries slots order k = key_count-map (named_at slots) order k

-- the object under a listed key is the one that it was made for
pub named_under-map : (f : ℕ → NamedObject) (order : List ℕ) (k : ℕ) → 0 < count_by (nat_eq k) order
    → named_under (map (λ j. let e : Listed = record { key = j; named = f j } in e) order) k ≡ f k
named_under-map f [] k h = absurd (omega arith)
named_under-map f (x ∷ xs) k h =
    at_x (nat_eq k x) refl (sum_by-cons (λ (z : ℕ). cond (nat_eq k z) 1 0) x xs) (named_under-map f xs k)
  where
    at_x : (b : Bool) → nat_eq k x ≡ b → count_by (nat_eq k) (x ∷ xs) ≡ cond b 1 0 + count_by (nat_eq k) xs
        → (0 < count_by (nat_eq k) xs
        → named_under (map (λ j. let e : Listed = record { key = j; named = f j } in e) xs) k ≡ f k)
        → unwrap_or (cond b (Some (f x))
        (found_under (map (λ j. let e : Listed = record { key = j; named = f j } in e) xs) k)) unnamed ≡ f k
    at_x true same split later = ap f (sym (eqb-true k x same))
    at_x false same split later = later (omega arith)

pub named_under-entries : (slots : Slab NamedObject) (order : List ℕ) (k : ℕ) → 0 < count_by (nat_eq k) order
    → named_under (map (entry_at slots) order) k ≡ named_at slots k
named_under-entries slots order k h = named_under-map (named_at slots) order k h
