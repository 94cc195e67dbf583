-- How many ranges an address is in.
use Rattle.place_sections.proofs.Common.{Extent, List, [], add-one, ap, arith, cases_lt, cover, covers, false}
use Rattle.place_sections.proofs.Common.{false_from_ne_true, get_or, if◌then◌else◌, inl, inr, le-leb, le-ltb, leb-true}
use Rattle.place_sections.proofs.Common.{length, lt-ltb, nat_le, nat_lt, refl, subst, sum_by-append, take, take-suc}
use Rattle.place_sections.proofs.Common.{take_all, true, ℕ, ◌&&◌, ◌+◌, ◌<◌, ◌∙◌, ◌∷◌, ◌≡◌, ◌≤◌}

pub record Ascending (extents : List Extent) (k end : ℕ) : Type 0 where
  pub one : (address : ℕ) → cover address (take k extents) ≤ 1
  pub past : (address : ℕ) → end ≤ address → cover address (take k extents) ≡ 0

-- an address is in a range, or not
pub data In (address : ℕ) (e : Extent) : Type 0 where
  inside : covers address e ≡ 1 → e.start ≤ address → address < e.start + e.size → In address e
  outside : covers address e ≡ 0 → In address e

pub is_in : (address : ℕ) (e : Extent) → In address e
is_in address e = elim (cases_lt address e.start) [
  | inl before ↦ outside
      (ap (λ b. if b && nat_lt address (e.start + e.size) then 1 else 0) (leb_past e.start address before))
  | inr from ↦ elim (cases_lt address (e.start + e.size)) [
    | inl within ↦ inside
        (ap (λ b. if b && nat_lt address (e.start + e.size) then 1 else 0) (leb_within e.start address from)
        ∙ ap (λ b. if b then 1 else 0) (ltb_within address (e.start + e.size) within)) from within
    | inr after ↦ outside
        (ap (λ b. if b && nat_lt address (e.start + e.size) then 1 else 0) (leb_within e.start address from)
        ∙ ap (λ b. if b then 1 else 0) (ltb_past address (e.start + e.size) after))
  ]
] where
  leb_past : (m n : ℕ) → n < m → nat_le m n ≡ false
  leb_past m n h = false_from_ne_true (nat_le m n) (λ t. absurd (omega (arith, h, leb-true m n t)))

  leb_within : (m n : ℕ) → m ≤ n → nat_le m n ≡ true
  leb_within m n h = le-leb m n h

  ltb_within : (m n : ℕ) → m < n → nat_lt m n ≡ true
  ltb_within m n h = lt-ltb m n h

  ltb_past : (m n : ℕ) → n ≤ m → nat_lt m n ≡ false
  ltb_past m n h = le-ltb m n h

cover_next : (address : ℕ) (extents : List Extent) (k : ℕ) (d : Extent) → k < length extents
    → cover address (take (k + 1) extents) ≡ cover address (take k extents) + covers address (get_or extents k d)
cover_next address extents k d below =
    let sum : cover address (take (k + 1) extents)
    ≡ cover address (take k extents) + cover address (get_or extents k d ∷ []) =
    ap (λ n. cover address (take n extents)) (add-one k)
    ∙ ap (cover address) (take-suc extents k d below)
    ∙ sum_by-append (covers address) (take k extents) (get_or extents k d ∷ []) in
    omega (arith, sum)

pub ascends_over_none : (extents : List Extent) → Ascending extents 0 0
ascends_over_none extents = record { one = λ a. omega arith; past = λ a past. refl }

pub ascends_over_empty : (extents : List Extent) (k end : ℕ) (d : Extent) → k < length extents
    → (get_or extents k d).size ≡ 0 → Ascending extents k end → Ascending extents (k + 1) end
ascends_over_empty extents k end d below empty h = record {
  one = λ a. omega (arith, cover_next a extents k d below, none a, h.one a);
  past = λ a past. omega (arith, cover_next a extents k d below, none a, h.past a past);
} where
  none : (a : ℕ) → covers a (get_or extents k d) ≡ 0
  none a = elim (is_in a (get_or extents k d)) [
    | inside one from within ↦ absurd (omega (arith, empty, from, within))
    | outside zero ↦ zero
  ]

pub ascends_over_one : (extents : List Extent) (k end next : ℕ) (d : Extent) → k < length extents
    → end ≤ (get_or extents k d).start → next ≡ (get_or extents k d).start + (get_or extents k d).size
    → Ascending extents k end → Ascending extents (k + 1) next
ascends_over_one extents k end next d below past same h = record { one = one; past = after } where
  one : (a : ℕ) → cover a (take (k + 1) extents) ≤ 1
  one a = elim (is_in a (get_or extents k d)) [
    | inside is from within ↦
        let before : cover a (take k extents) ≡ 0 = h.past a (omega (arith, past, from)) in
        omega (arith, cover_next a extents k d below, is, before)
    | outside is ↦ omega (arith, cover_next a extents k d below, is, h.one a)
  ]

  after : (a : ℕ) → next ≤ a → cover a (take (k + 1) extents) ≡ 0
  after a from_next =
      let before : cover a (take k extents) ≡ 0 = h.past a (omega (arith, past, same, from_next)) in
      elim (is_in a (get_or extents k d)) [
        | inside is from within ↦ absurd (omega (arith, same, within, from_next))
        | outside is ↦ omega (arith, cover_next a extents k d below, is, before)
      ]

pub ascends_over_all : (extents : List Extent) (k end : ℕ) → length extents ≤ k → Ascending extents k end
    → (address : ℕ) → cover address extents ≤ 1
ascends_over_all extents k end past_all h address =
    subst (λ l. cover address l ≤ 1) (take_all k extents past_all) (h.one address)
