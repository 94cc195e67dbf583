-- Fields of relocations that share no byte share none.
use Rattle.emit_relocate.proofs.Common.{All, AllPairs, AreAdded, AreFieldsOf, IsAmong, IsFieldOf, IsNext}
use Rattle.emit_relocate.proofs.Common.{IsNonDecreasingBy, List, Patch, Relocation, Some, [], ap, append-nil}
use Rattle.emit_relocate.proofs.Common.{append_assoc, arith, cases_eq, false, field_end, get_or, get_or_append_left}
use Rattle.emit_relocate.proofs.Common.{get_or_from_slice_get, inl, inr, length, length-append, refl, slice_get}
use Rattle.emit_relocate.proofs.Common.{slice_get_within, subst, sym, true, ℕ, ◌++◌, ◌+◌, ◌<◌, ◌∙◌, ◌∷◌, ◌≡◌, ◌≤◌}
use Rattle.std.proofs.Math.Seq.{get_or-append_seam}
use Rattle.elfobj.specs.Profile as elf
use Rattle.elfobj.specs.RelocationKinds.{width}
use Rattle.elfobj.specs.Relocations as of
use Rattle.emit_fields.specs.Patches.{IsWithin, patches_meet}
use Rattle.ldmodel_laws.proofs.Apart.{some_width}

-- what holds of the items of a list and of one more
module _ {X : Type 0} (xs : List X) (x : X) where
  at_last : (k : ℕ) (d : X) → k ≡ length xs → get_or (xs ++ x ∷ []) k d ≡ x
  at_last k d e = ap (λ n. get_or (xs ++ x ∷ []) n d) e ∙ get_or-append_seam xs x [] d

  below_last : (k : ℕ) → k < length (xs ++ x ∷ []) → (k ≡ length xs → ⊥) → k < length xs
  below_last k low differs =
      let long : length (xs ++ x ∷ []) ≡ length xs + 1 = length-append xs (x ∷ []) in
      omega (arith, low, long, differs)

  all_longer : (P : X → Type 0) → All P xs → P x → All P (xs ++ x ∷ [])
  all_longer P all one = λ k d low. elim (cases_eq k (length xs)) [
    | inl e ↦ rw (at_last k d e) one
    | inr differs ↦ rw (get_or_append_left xs (x ∷ []) d k (below_last k low differs))
        (all k d (below_last k low differs))
  ]

  pairs_longer : (R : X → X → Type 0) → AllPairs R xs → All (λ y. R y x) xs → AllPairs R (xs ++ x ∷ [])
  pairs_longer R pairs one = λ i j d before low. elim (cases_eq j (length xs)) [
    | inl e ↦
        let early : i < length xs = omega (arith, before, e) in
        rw (at_last j d e, get_or_append_left xs (x ∷ []) d i early) (one i d early)
    | inr differs ↦
        let late : j < length xs = below_last j low differs in
        let early : i < length xs = omega (arith, before, late) in
        rw (get_or_append_left xs (x ∷ []) d i early, get_or_append_left xs (x ∷ []) d j late) (pairs i j d before late)
  ]

-- numbers that do not fall, and one more that is no smaller
up_longer : (ps : List Patch) (y : Patch) → IsNonDecreasingBy (λ (p : Patch). p.offset) ps
    → All (λ (p : Patch). p.offset ≤ y.offset) ps → IsNonDecreasingBy (λ (p : Patch). p.offset) (ps ++ y ∷ [])
up_longer ps y up last = λ i j d before low. elim (cases_eq i j) [
  | inl e ↦ rw e (omega arith)
  | inr differs ↦ pairs_longer ps y (λ p q. p.offset ≤ q.offset)
      (λ a b x l m. up a b x (omega (arith, l)) m) last i j d (omega (arith, before, differs)) low
]

-- fields of two relocations that are apart are apart
apart_fields : (r q : Relocation) (x y : Patch) → IsFieldOf r x → IsFieldOf q y → of.meets r q ≡ false
    → patches_meet x y
    ≡ false
apart_fields r q x y h k e = rw (h.offset_is, h.width_is, k.offset_is, k.width_is) e

module _ (rs : List Relocation) (i : ℕ) (r : Relocation) (is : slice_get rs i ≡ Some r) where
  further : (x : Patch) → IsAmong rs i x → IsAmong rs (i + 1) x
  further x h = (h.0, h.1, omega (arith, h.2), h.3, h.4)

  apart_from : elf.AreApart rs → (y : Patch) → IsFieldOf r y → (x : Patch) → IsAmong rs i x → patches_meet x y ≡ false
  apart_from all y k x h =
      let first : get_or rs h.0 r ≡ h.1 = get_or_from_slice_get rs h.0 h.1 r h.3 in
      let second : get_or rs i r ≡ r = get_or_from_slice_get rs i r r is in
      apart_fields h.1 r x y h.4 k (rw (first, second) at (all h.0 i r h.2 (slice_get_within rs i r is)))

  -- the field of a relocation lies no earlier than those of relocations before it
  no_earlier : IsNonDecreasingBy (λ (q : Relocation). q.offset) rs → (y : Patch) → IsFieldOf r y → (x : Patch)
      → IsAmong rs i x → x.offset ≤ y.offset
  no_earlier up y k x h =
      let first : get_or rs h.0 r ≡ h.1 = get_or_from_slice_get rs h.0 h.1 r h.3 in
      let second : get_or rs i r ≡ r = get_or_from_slice_get rs i r r is in
      let low : h.0 ≤ i = omega (arith, h.2) in
      let rise : h.1.offset ≤ r.offset = rw (first, second) at (up h.0 i r low (slice_get_within rs i r is)) in
      omega (arith, rise, h.4.offset_is, k.offset_is)

  added_one : (ps : List Patch) (y : Patch) → AreFieldsOf rs i ps → IsFieldOf r y
      → AreFieldsOf rs (i + 1) (ps ++ y ∷ [])
  added_one ps y h k = record {
    each = all_longer ps y (IsAmong rs (i + 1)) (λ j d low. further (get_or ps j d) (h.each j d low))
        (i, r, omega arith, is, k);
    apart = λ all. pairs_longer ps y (λ p q. patches_meet p q ≡ false) (h.apart all) (λ j d low.
        apart_from all y k (get_or ps j d) (h.each j d low));
    order = λ up. up_longer ps y (h.order up) (λ j d low. no_earlier up y k (get_or ps j d) (h.each j d low));
  }

  next_fields : (ps qs : List Patch) → AreFieldsOf rs i ps → IsNext r ps qs → AreFieldsOf rs (i + 1) qs
  next_fields ps qs h (inl e) = rw e
      (record {
        each = λ j d low. further (get_or ps j d) (h.each j d low);
        apart = h.apart;
        order = h.order;
      })
  next_fields ps qs h (inr n) = rw (n.1) (added_one ps n.0 h n.2)

  -- one relocation more was looked at
  pub next_added : (old ps qs : List Patch) → AreAdded rs i old ps → IsNext r ps qs → AreAdded rs (i + 1) old qs
  next_added old ps qs h (inl e) = record {
    own = h.own;
    fields = e ∙ h.fields;
    of = next_fields h.own h.own h.of (inl refl);
  }
  next_added old ps qs h (inr n) = record {
    own = h.own ++ n.0 ∷ [];
    fields = n.1 ∙ ap (λ xs. xs ++ n.0 ∷ []) h.fields ∙ append_assoc old h.own (n.0 ∷ []);
    of = added_one h.own n.0 h.of n.2;
  }

no_fields : (rs : List Relocation) → AreFieldsOf rs 0 []
no_fields rs = record {
  each = λ j d low. absurd (omega (arith, low));
  apart = λ all i j d before low. absurd (omega (arith, low));
  order = λ up i j d before low. absurd (omega (arith, low));
}

pub none_added : (rs : List Relocation) (ps : List Patch) → AreAdded rs 0 ps ps
none_added rs ps = record { own = []; fields = sym (append-nil ps); of = no_fields rs }

pub all_added : (rs : List Relocation) (old ps : List Patch) (i : ℕ) → length rs ≤ i → i ≤ length rs
    → AreAdded rs i old ps → AreAdded rs (length rs) old ps
all_added rs old ps i low high h =
    let e : i ≡ length rs = omega arith in
    subst (λ n. AreAdded rs n old ps) e h

-- where there were no others, they are all
pub whole_own : (rs : List Relocation) (n : ℕ) (old new : List Patch) → old ≡ [] → AreAdded rs n old new
    → AreFieldsOf rs n new
whole_own rs n old new none h = subst (AreFieldsOf rs n) (sym (h.fields ∙ ap (λ xs. xs ++ h.own) none)) h.of

-- fields of relocations that end by a limit end there
within_one : (n : ℕ) (r : Relocation) (x : Patch) → IsFieldOf r x → field_end r ≤ n → IsWithin n x
within_one n r x h end =
    let wide = some_width r.kind h.kept in
    let at = h.offset_is in
    let width = h.width_is in
    record { some = omega (arith, width, wide); end = omega (arith, at, width, end) }

pub within : (rs : List Relocation) (n m : ℕ) (ps : List Patch) → AreFieldsOf rs m ps → All (λ r. field_end r ≤ n) rs
    → All (IsWithin n) ps
within rs n m ps h ends = λ k d low.
    let f = h.each k d low in
    let last : get_or rs f.0 f.1 ≡ f.1 = get_or_from_slice_get rs f.0 f.1 f.1 f.3 in
    within_one n f.1 (get_or ps k d) f.4 (rw last at (ends f.0 f.1 (slice_get_within rs f.0 f.1 f.3)))
