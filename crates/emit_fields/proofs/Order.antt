-- Fields of which no two share a byte, put into the order of their offsets.
use Rattle.emit_fields.proofs.Common.{All, AreInOrder, Bool, List, Patch, [], ap, arith, false, get_or, if◌then◌else◌}
use Rattle.emit_fields.proofs.Common.{inl, inr, length, max, max_comm, min, min_comm, nat_lt, nat_tests, patch_end}
use Rattle.emit_fields.proofs.Common.{patched_byte, refl, suc, sym, true, zero, ℕ, ◌-◌, ◌<◌, ◌∙◌, ◌∷◌, ◌≡◌, ◌≤◌, ◌⊎◌}
use Rattle.std.specs.List.{Contains, IsDistinct}
use Rattle.std.specs.List.Sorted.{IsNonDecreasingBy, IsPermutation}
use Rattle.std.proofs.lemmas.List.Elements.{recursion_from_All}
use Rattle.std.proofs.lemmas.List.Sorted.{All-permutation, Contains-permutation, IsPermutation-sym}
use Rattle.std.proofs.lemmas.Map.Keys.{IsDistinct-IsPermutation, apart_from_distinct}
use Rattle.emit_fields.specs.Patches.{AreApart, IsWithin, patch_covers, patches_meet}

meets_flips : (p q : Patch) → patches_meet p q ≡ patches_meet q p
meets_flips p q =
    ap (λ (n : ℕ). nat_lt n (min (patch_end p) (patch_end q))) (max_comm p.offset q.offset)
    ∙ ap (λ (n : ℕ). nat_lt (max q.offset p.offset) n) (min_comm (patch_end p) (patch_end q))

apart_tail : (p : Patch) (ps : List Patch) → AreApart (p ∷ ps) → AreApart ps
apart_tail p ps h = λ i j d a b. h (suc i) (suc j) d (omega arith) (omega arith)

distinct : (ps : List Patch) → AreApart ps → IsDistinct patches_meet ps
unfolding IsDistinct
distinct [] h = tt
distinct (p ∷ ps) h = (
  recursion_from_All (λ q. patches_meet p q ≡ false) ps (λ k d l. h 0 (suc k) d (omega arith) (omega arith)),
  distinct ps (apart_tail p ps h),
)

-- fields that are apart are so in any order
pub apart_permuted : (ps qs : List Patch) → IsPermutation ps qs → AreApart ps → AreApart qs
apart_permuted ps qs m h = λ i j d a b. apart_from_distinct patches_meet qs i j d
    (IsDistinct-IsPermutation patches_meet meets_flips ps qs m (distinct ps h)) a b

behind : (n : ℕ) (p q : Patch) → p.offset ≤ q.offset → patches_meet p q ≡ false → IsWithin n p → IsWithin n q
    → patch_end p ≤ q.offset
behind n p q up apart v w = grind (arith, nat_tests)

-- fields that are apart, in the order of their offsets, lie each behind the one before
pub ordered : (from n : ℕ) (ps : List Patch) → from ≤ n
    → ((i : ℕ) (d : Patch) → i < length ps → from ≤ (get_or ps i d).offset)
    → IsNonDecreasingBy (λ (p : Patch). p.offset) ps → AreApart ps → All (IsWithin n) ps → AreInOrder from n ps
ordered from n [] low above up apart within = low
ordered from n (p ∷ ps) low above up apart within =
    let w : IsWithin n p = within 0 p (omega arith) in (
      above 0 p (omega arith),
      ordered (patch_end p) n ps w.end
          (λ i d a. behind n p (get_or ps i d) (up 0 (suc i) d (omega arith) (omega arith))
          (apart 0 (suc i) d (omega arith) (omega arith)) w (within (suc i) d (omega arith)))
          (λ i j d a b. up (suc i) (suc j) d (omega arith) (omega arith))
          (apart_tail p ps apart)
          (λ k d a. within (suc k) d (omega arith)),
    )

if_true : (b : Bool) (x y : ℕ) → b ≡ true → (if b then x else y) ≡ x
if_true true x y h = refl
if_true false x y h = cc

if_false : (b : Bool) (x y : ℕ) → b ≡ false → (if b then x else y) ≡ y
if_false false x y h = refl
if_false true x y h = cc

byte_of_first : (bytes : List ℕ) (p : Patch) (ps : List Patch) (i : ℕ) → patch_covers p i ≡ true
    → patched_byte bytes (p ∷ ps) i ≡ get_or p.field (i - p.offset) 0
byte_of_first bytes p ps i h = if_true (patch_covers p i) (get_or p.field (i - p.offset) 0) (patched_byte bytes ps i) h

byte_of_rest : (bytes : List ℕ) (p : Patch) (ps : List Patch) (i : ℕ) → patch_covers p i ≡ false
    → patched_byte bytes (p ∷ ps) i ≡ patched_byte bytes ps i
byte_of_rest bytes p ps i h = if_false (patch_covers p i) (get_or p.field (i - p.offset) 0) (patched_byte bytes ps i) h

not_both : (p q : Patch) (i : ℕ) → patches_meet p q ≡ false → patch_covers q i ≡ true → patch_covers p i ≡ false
not_both p q i apart h = grind (arith, nat_tests)

-- the byte at a place that a field covers is the field's
byte_of_member : (bytes : List ℕ) (ps : List Patch) (p : Patch) (i : ℕ) → AreApart ps → Contains ps p
    → patch_covers p i ≡ true → patched_byte bytes ps i ≡ get_or p.field (i - p.offset) 0
byte_of_member bytes [] p i h (k, l, e) t = absurd (omega arith)
byte_of_member bytes (q ∷ ps) p i h (zero, l, e) t =
    byte_of_first bytes q ps i (ap (λ (x : Patch). patch_covers x i) e ∙ t)
    ∙ ap (λ (x : Patch). get_or x.field (i - x.offset) 0) e
byte_of_member bytes (q ∷ ps) p i h (suc k, l, e) t =
    let apart : patches_meet q p ≡ false = sym (ap (λ (x : Patch). patches_meet q x) e)
    ∙ h 0 (suc k) p (omega arith) l in
    byte_of_rest bytes q ps i (not_both q p i apart t)
    ∙ byte_of_member bytes ps p i (apart_tail q ps h) (k, omega arith, e) t

-- at a place that none covers it is the piece's own
byte_of_none : (bytes : List ℕ) (ps : List Patch) (i : ℕ) → ((p : Patch) → Contains ps p → patch_covers p i ≡ false)
    → patched_byte bytes ps i ≡ get_or bytes i 0
byte_of_none bytes [] i h = refl
byte_of_none bytes (q ∷ ps) i h =
    byte_of_rest bytes q ps i (h q (zero, omega arith, refl))
    ∙ byte_of_none bytes ps i (λ p m. h p (suc m.0, omega arith, m.2))

either : (b : Bool) → (b ≡ true) ⊎ (b ≡ false)
either true = inl refl
either false = inr refl

uncovered-cons : (q : Patch) (ps : List Patch) (i : ℕ) → patch_covers q i ≡ false
    → ((p : Patch) → Contains ps p → patch_covers p i ≡ false) → (p : Patch) → Contains (q ∷ ps) p
    → patch_covers p i ≡ false
uncovered-cons q ps i first rest p (zero, l, e) = sym (ap (λ (x : Patch). patch_covers x i) e) ∙ first
uncovered-cons q ps i first rest p (suc k, l, e) = rest p (k, omega arith, e)

-- a field covers a place, or none does
covered : (ps : List Patch) (i : ℕ)
    → ((p : Patch) × Contains ps p × (patch_covers p i ≡ true)) ⊎ ((p : Patch) → Contains ps p
    → patch_covers p i ≡ false)
covered [] i = inr (λ p m. let l : m.0 < 0 = m.1 in absurd (omega arith))
covered (q ∷ ps) i = elim (either (patch_covers q i)) [
  | inl t ↦ inl (q, (zero, omega arith, refl), t)
  | inr f ↦ elim (covered ps i) [
    | inl (p, m, t) ↦ inl (p, (suc m.0, omega arith, m.2), t)
    | inr none ↦ inr (uncovered-cons q ps i f none)
  ]
]

-- the bytes of a piece are the same for its fields in any order
pub byte_permuted : (bytes : List ℕ) (ps qs : List Patch) (i : ℕ) → IsPermutation ps qs → AreApart ps
    → patched_byte bytes qs i ≡ patched_byte bytes ps i
byte_permuted bytes ps qs i moved apart = elim (covered ps i) [
  | inl (p, m, t) ↦ byte_of_member bytes qs p i (apart_permuted ps qs moved apart)
      (Contains-permutation ps qs p moved m) t ∙ sym (byte_of_member bytes ps p i apart m t)
  | inr none ↦ byte_of_none bytes qs i (λ p m. none p (Contains-permutation qs ps p (IsPermutation-sym ps qs moved) m))
      ∙ sym (byte_of_none bytes ps i none)
]

-- what is sorted by its offsets is in order, within any limit
pub in_order_sorted : (ps qs : List Patch) → IsPermutation ps qs → IsNonDecreasingBy (λ (p : Patch). p.offset) qs
    → AreApart ps → (n : ℕ) → All (IsWithin n) ps → AreInOrder 0 n qs
in_order_sorted ps qs moved up apart n within =
    ordered 0 n qs (omega arith) (λ i d a. omega arith) up (apart_permuted ps qs moved apart)
    (All-permutation (IsWithin n) ps qs moved within)
