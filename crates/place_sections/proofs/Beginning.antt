-- Lists that begin with others.
use Rattle.place_sections.proofs.Common.{Begins, List, [], ap, append-nil, append_assoc, arith, drop, drop-map}
use Rattle.place_sections.proofs.Common.{flat_map, flat_map-append, length, length-append, map, map-append, part_of}
use Rattle.place_sections.proofs.Common.{sym, take, take-append_seam, take-map, ℕ, ◌++◌, ◌∙◌, ◌∷◌, ◌≡◌, ◌≤◌}

pub begins_on : {X : Type 0} (xs ys zs : List X) → Begins xs ys → Begins ys zs → Begins xs zs
begins_on xs ys zs a b = record {
  later = a.later ++ b.later;
  is = b.is ∙ (ap (λ l. l ++ b.later) a.is ∙ append_assoc xs a.later b.later);
}

pub begins_same : {X : Type 0} (xs ys : List X) → ys ≡ xs → Begins xs ys
begins_same xs ys e = record { later = []; is = e ∙ sym (append-nil xs) }

pub begins_one : {X : Type 0} (xs : List X) (x : X) (ys : List X) → ys ≡ xs ++ x ∷ [] → Begins xs ys
begins_one xs x ys e = record { later = x ∷ []; is = e }

pub begins_mapped : {X Y : Type 0} (f : X → Y) (xs ys : List X) → Begins xs ys → Begins (map f xs) (map f ys)
begins_mapped f xs ys b = record { later = map f b.later; is = ap (map f) b.is ∙ map-append f xs b.later }

pub begins_flat : {X Y : Type 0} (f : X → List Y) (xs ys : List X) → Begins xs ys
    → Begins (flat_map f xs) (flat_map f ys)
begins_flat f xs ys b = record {
  later = flat_map f b.later;
  is = ap (flat_map f) b.is ∙ flat_map-append f xs b.later;
}

-- the first ones, as many as there are
pub first_part : {X : Type 0} (xs all : List X) (count : ℕ) → Begins xs all → count ≡ length xs → take count all ≡ xs
first_part xs all count b c = ap (λ k. take k all) c ∙ (ap (take (length xs)) b.is ∙ take-append_seam xs b.later)

pub fewer_begin : {X : Type 0} (xs ys : List X) → Begins xs ys → length xs ≤ length ys
fewer_begin xs ys b = let e = ap length b.is in let f = length-append xs b.later in omega (arith, e, f)

pub mapped_part : {X Y : Type 0} (f : X → Y) (xs : List X) (from count : ℕ) → map f (part_of xs from count)
    ≡ part_of (map f xs) from count
mapped_part f xs from count =
    sym (take-map f count (drop from xs)) ∙ ap (take count) (sym (drop-map f from xs))
