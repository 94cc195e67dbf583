-- A section by its number among those of its object.
use Rattle.emit_relocate.proofs.Common.{All, AllPairs, AreApart, HasRelocationsOfProfile, IsAtHand, IsPlaced}
use Rattle.emit_relocate.proofs.Common.{IsSectionOf, KnownLink, LinkedSection, List, ObjectData, ObjectSection, Option}
use Rattle.emit_relocate.proofs.Common.{PlacedInput, Relocation, Some, [], ap, arith, eq-eqb, field_end, find, get_or}
use Rattle.emit_relocate.proofs.Common.{get_or_from_slice_get, length, length-map, map, nat_eq, ne_eqb, option_map}
use Rattle.emit_relocate.proofs.Common.{refl, same_Some, section_numbered, section_of, slice_get, slice_get-map}
use Rattle.emit_relocate.proofs.Common.{slice_get_within, subst, suc, sym, zero, ℕ, ◌+◌, ◌<◌, ◌^◌, ◌∙◌, ◌∷◌, ◌≡◌, ◌≤◌}
use Rattle.std.proofs.Common.{None}
use Rattle.elfobj.specs.declared.section.Section.{Section}
use Rattle.emit_relocate.specs.SymbolValues.{IsRow}
use Rattle.emit_relocate.specs.declared.input_section.InputSection.{InputSection}

abbrev Ascend : List LinkedSection → Type 0
Ascend xs = AllPairs (λ (s : Section) (t : Section). s.number.0 < t.number.0) (map section_of xs)

at_place : (xs : List LinkedSection) (i : ℕ) (x : LinkedSection) (d : Section) → slice_get xs i ≡ Some x
    → get_or (map section_of xs) i d ≡ section_of x
at_place xs i x d e =
    get_or_from_slice_get (map section_of xs) i (section_of x) d (slice_get-map section_of xs i
    ∙ ap (λ o. option_map section_of o) e)

pub found : (xs : List LinkedSection) (i : ℕ) (x : LinkedSection) → Ascend xs → slice_get xs i ≡ Some x
    → find (λ y. nat_eq y.number.0 x.number.0) xs ≡ Some x
found [] i x pairs e = cc
found (y ∷ ys) zero x pairs e =
    let same : y ≡ x = same_Some _ _ e in
    rw (eq-eqb y.number.0 x.number.0 (ap (λ (s : LinkedSection). s.number.0) same)) e
found (y ∷ ys) (suc i) x pairs e =
    let low : i < length ys = slice_get_within ys i x e in
    let many : i < length (map section_of ys) = omega (arith, low, length-map ys section_of) in
    let below : y.number.0 < x.number.0 =
    rw (at_place ys i x (section_of y) e) at
    (pairs zero (suc i) (section_of y) (omega arith) (omega (arith, many))) in
    rw (ne_eqb y.number.0 x.number.0 (λ same. absurd (omega (arith, below, same))))
    (found ys i x (λ a b d before short. pairs (suc a) (suc b) d (omega (arith, before)) (omega (arith, short))) e)

pub there : (xs : List LinkedSection) (i : ℕ) → i < length xs → slice_get xs i ≡ None → ⊥
there [] i low e = absurd (omega (arith, low))
there (x ∷ xs) zero low e = cc
there (x ∷ xs) (suc i) low e = there xs i (omega (arith, low)) e

pub some_at : (xs : List LinkedSection) (i : ℕ) → i < length xs → (x : LinkedSection) × (slice_get xs i ≡ Some x)
some_at [] i low = absurd (omega (arith, low))
some_at (x ∷ xs) zero low = (x, refl)
some_at (x ∷ xs) (suc i) low = some_at xs i (omega (arith, low))

module _ (xs : List LinkedSection) (i : ℕ) (d : Section) (ss : List Section) (are : ss
    ≡ map section_of xs) (x : LinkedSection) (is : slice_get xs i ≡ Some x) where
  pub at_index : get_or ss i d ≡ section_of x
  at_index = rw are (at_place xs i x d is)

  pub numbered : AllPairs (λ (s : Section) (t : Section). s.number.0 < t.number.0) ss
      → find (λ y. nat_eq y.number.0 (get_or ss i d).number.0) xs ≡ Some x
  numbered pairs = rw at_index (found xs i x (rw are at pairs) is)

module _ (xs : List LinkedSection) (i : ℕ) (rs : List Relocation)
    (of : slice_get (map (λ (s : LinkedSection). s.relocations) xs) i ≡ Some rs) where
  pub relocations_of : (x : LinkedSection) → slice_get xs i ≡ Some x → rs ≡ x.relocations
  relocations_of x is =
      same_Some _ _ (sym of ∙ slice_get-map (λ (s : LinkedSection). s.relocations) xs i
      ∙ ap (λ o. option_map (λ (s : LinkedSection). s.relocations) o) is)

  module _ (n : ℕ) (limits : All (HasRelocationsOfProfile n) xs) where
    of_profile : (x : LinkedSection) → slice_get xs i ≡ Some x → HasRelocationsOfProfile n x
    of_profile x is = rw (get_or_from_slice_get xs i x x is) at (limits i x (slice_get_within xs i x is))

    pub ends : (x : LinkedSection) → slice_get xs i ≡ Some x → All (λ r. field_end r ≤ x.size) rs
    ends x is = rw (relocations_of x is) (λ k d low. ((of_profile x is).each k d low).field)

    apart_at : (o : Option LinkedSection) → slice_get xs i ≡ o → i < length xs → AreApart rs
    apart_at None is low = absurd (there xs i low is)
    apart_at (Some x) is low = rw (relocations_of x is) ((of_profile x is).apart)

    pub apart : i < length xs → AreApart rs
    apart low = apart_at (slice_get xs i) refl low

-- a section that ends below 2^64 has its fields below
module _ (xs : List LinkedSection) (i : ℕ) (d : Section) (ss : List Section) (are : ss ≡ map section_of xs) (start : ℕ)
    (rs : List Relocation)
    (h : (x : LinkedSection) → slice_get xs i ≡ Some x → All (λ r. field_end r ≤ x.size) rs)
    (short : start + (get_or ss i d).size < 2 ^ 64) where
  below_at : (o : Option LinkedSection) → slice_get xs i ≡ o → i < length xs → All (λ r. start + r.offset < 2 ^ 64) rs
  below_at None is low = absurd (there xs i low is)
  below_at (Some x) is low = λ k e long.
      let size : (get_or ss i d).size ≡ x.size = ap (λ (s : Section). s.size) (at_index xs i d ss are x is) in
      let end = h x is k e long in
      omega (arith, size, end, short)

  pub below : i < length xs → All (λ r. start + r.offset < 2 ^ 64) rs
  below low = below_at (slice_get xs i) refl low

-- the section at hand
module _ (l : KnownLink) (m : InputSection) (s : ObjectSection) (h : IsAtHand l m s) where
  pub there_of : slice_get m.object.now.sections m.index.0 ≡ Some s.section
  there_of = ap (λ (r : ObjectData). slice_get r.sections m.index.0) (sym h.read_is) ∙ h.section_is

  -- where it was placed
  pub placed_of : (p : PlacedInput) → p.values.now ≡ m.values.now → IsSectionOf m.object.now s.section m.place p
      → IsPlaced l p s.object s.section
  placed_of p values is = record {
    object_is = rw is.place_is h.object_is;
    section_is = rw h.read_is is.number_is;
    symbols_are = rw h.read_is is.symbols_are;
    values_are = subst (IsRow l s.object) (sym values) h.values_are;
    relocations_are = is.relocations_are;
  }

  module _ (d : Section) (ss : List Section) (are : ss ≡ map section_of m.object.now.sections) where
    pub header_of : get_or ss m.index.0 d ≡ section_of s.section
    header_of = at_index m.object.now.sections m.index.0 d ss are s.section there_of

    pub numbered_as : AllPairs (λ (a : Section) (b : Section). a.number.0 < b.number.0) ss
        → section_numbered s.object s.section.number ≡ Some s.section
    numbered_as pairs =
        found s.object.object.sections m.index.0 s.section (rw (are, ← h.read_is) at pairs) h.section_is
