-- The numbers of input sections: each part has one number at most, and no two have the same one.
use Rattle.gather.proofs.Common.{All, All-append, All-cons, All-nil, Bool, Contains, Contains-permutation, InCommon}
use Rattle.gather.proofs.Common.{InTable, InputSection, InputSectionTable, IsSome, LinkedSection, List, NamedObject}
use Rattle.gather.proofs.Common.{None, Option, Project, Slots, Some, [], ap, arith, cases_lt, common_blocks, cond}
use Rattle.gather.proofs.Common.{fails_before_first, false, get_or, inl, inr, is_ranked, length, linked_input, lt-ltb}
use Rattle.gather.proofs.Common.{ltb-false, ltb-true, map, nat_lt, object_inputs, option_map, position, position_or_len}
use Rattle.gather.proofs.Common.{refl, same_Some, slice_get, subst, suc, sym, take, true, true≢false, ℕ, ◌+◌, ◌<◌, ◌∙◌}
use Rattle.gather.proofs.Common.{◌∷◌, ◌≡◌, ◌≤◌, ◌⊎◌}
use Rattle.std.proofs.lemmas.List.Quantifiers.{position-Some}
use Rattle.std.specs.List.Sorted.{IsPermutation}
use Rattle.ldmodel.specs.declared.sections.Part.{Part}
use Rattle.gather.specs.Slots.{AreLaid, AreLinkedBefore, AreLinkedCounted, linked_in, slots_of}
use Rattle.gather.specs.SectionTable.{AreBlockRanks, IsBlockAmong, IsTableOf, block_of, len_of, number_of, slot_of}
use Rattle.gather.proofs.Counting.{inside}
use Rattle.gather.proofs.OfObjects.{one_section}
use Rattle.gather.proofs.Ranks.{alike, one}

-- ---- header numbers

record Slot (hs : List Slots) (n k at : ℕ) : Type 0 where
  counted : k < (slots_of hs n).count
  is : (slots_of hs n).begin + k ≡ at

slot_is : (hs : List Slots) (n k at : ℕ) → slot_of hs n k ≡ Some at → Slot hs n k at
slot_is hs n k at e = go (nat_lt k (slots_of hs n).count) refl e
  where
    go : (b : Bool) → nat_lt k (slots_of hs n).count ≡ b
        → cond b (Some ((slots_of hs n).begin + k)) None ≡ Some at → Slot hs n k at
    go true l h = record { counted = ltb-true k (slots_of hs n).count l; is = same_Some _ _ h }
    go false l h = absurd (let none : ⊥ = cc in none)

has_slot : (hs : List Slots) (n k : ℕ) → k < (slots_of hs n).count → IsSome (slot_of hs n k)
has_slot hs n k h =
    subst (λ (b : Bool). IsSome (cond b (Some ((slots_of hs n).begin + k)) None))
    (sym (lt-ltb k (slots_of hs n).count h)) refl

module _ (hs : List Slots) (total : ℕ) (laid : AreLaid hs total) where
  slot_below : (n k at : ℕ) → slot_of hs n k ≡ Some at → at < total
  slot_below n k at e =
      let s = slot_is hs n k at e in omega (arith, s.is, s.counted, laid.within n (inside hs n k s.counted))

  one_object : (n m k l at : ℕ) → Slot hs n k at → Slot hs m l at → n ≡ m
  one_object n m k l at s t = go (cases_lt m n) (cases_lt n m)
    where
      go : (m < n) ⊎ (n ≤ m) → (n < m) ⊎ (m ≤ n) → n ≡ m
      go (inl a) b =
          absurd (omega (arith, s.is, t.is, s.counted, t.counted, laid.apart m n a (inside hs n k s.counted)))
      go (inr a) (inl b) =
          absurd (omega (arith, s.is, t.is, s.counted, t.counted, laid.apart n m b (inside hs m l t.counted)))
      go (inr a) (inr b) = omega arith

  one_slot : (n m k l at : ℕ) → slot_of hs n k ≡ Some at → slot_of hs m l ≡ Some at → (n ≡ m) × (k ≡ l)
  one_slot n m k l at e f =
      let s = slot_is hs n k at e in
      let t = slot_is hs m l at f in
      let same : n ≡ m = one_object n m k l at s t in
      let begins : (slots_of hs n).begin ≡ (slots_of hs m).begin = ap (λ i. (slots_of hs i).begin) same in
      (same, omega (arith, s.is, t.is, begins))

-- ---- common blocks

some_of : {X Y : Type 0} (f : X → Y) (o : Option X) (y : Y) → option_map f o ≡ Some y → (x : X) × (o ≡ Some x) ×
    (f x ≡ y)
some_of f None y e = absurd (let none : ⊥ = cc in none)
some_of f (Some x) y e = (x, refl, same_Some _ _ e)

module _ (t : InputSectionTable) where
  record Block (n x at : ℕ) : Type 0 where
    place : ℕ
    is : t.slots + place ≡ at
    inside_is : place < length t.blocks.items
    ranked : (d : ℕ × Bool × ℕ) → is_ranked (n, true, x) (get_or t.blocks.items place d) ≡ true

  block_is : (n x at : ℕ) → block_of t n x ≡ Some at → Block n x at
  block_is n x at e =
      let w = some_of (λ (j : ℕ). t.slots + j) (position (is_ranked (n, true, x)) t.blocks.items) at e in
      let first = position-Some (is_ranked (n, true, x)) t.blocks.items w.0 (n, true, x) w.1 in
      record {
        place = w.0;
        is = w.2;
        inside_is = first.0;
        ranked = λ d. (position-Some (is_ranked (n, true, x)) t.blocks.items w.0 d w.1).1;
      }

  one_block : (n m x y at : ℕ) → block_of t n x ≡ Some at → block_of t m y ≡ Some at
      → (n ≡ m) × (x ≡ y)
  one_block n m x y at e f =
      let s = block_is n x at e in
      let r = block_is m y at f in
      let places : s.place ≡ r.place = omega (arith, s.is, r.is) in
      let there : ℕ × Bool × ℕ = get_or t.blocks.items s.place (n, true, x) in
      let first : there ≡ (n, true, x) = one there (n, true, x) (s.ranked (n, true, x)) in
      let second : is_ranked (m, true, y) there ≡ true =
      ap (λ j. is_ranked (m, true, y) (get_or t.blocks.items j (n, true, x))) places ∙ r.ranked (n, true, x) in
      let same : (n, true, x) ≡ (m, true, y) = sym first ∙ one there (m, true, y) second in
      (ap (λ (z : ℕ × Bool × ℕ). z.0) same, ap (λ (z : ℕ × Bool × ℕ). z.2) same)

has_place : {X : Type 0} (p : X → Bool) (xs : List X) (x : X) → Contains xs x → p x ≡ true → IsSome (position p xs)
has_place p xs x c h = go (nat_lt (position_or_len p xs) (length xs)) refl
  where
    go : (b : Bool) → nat_lt (position_or_len p xs) (length xs) ≡ b
        → IsSome (cond b (Some (position_or_len p xs)) None)
    go true e = refl
    go false e =
        let past : length xs ≤ position_or_len p xs = ltb-false (position_or_len p xs) (length xs) e in
        let fails : p (get_or xs c.0 x) ≡ false = fails_before_first p xs c.0 x (omega (arith, c.1, past)) in
        absurd (true≢false (sym h ∙ ap p (sym c.2) ∙ fails))

map_some : {X Y : Type 0} (f : X → Y) (o : Option X) → IsSome o → IsSome (option_map f o)
map_some f None h = h
map_some f (Some x) h = h

-- ---- all of them

module _ (t : InputSectionTable) where
  below : (n : ℕ) (q : Part) (at : ℕ) → number_of t n q ≡ Some at → at < len_of t
  below n (InTable k) at e =
      let low = slot_below t.objects.items t.slots t.laid n k.0 at e in omega (arith, low)
  below n (InCommon x) at e = let b = block_is t n x.0 at e in omega (arith, b.is, b.inside_is)

  never : (n k m x at : ℕ) → slot_of t.objects.items n k ≡ Some at → block_of t m x ≡ Some at → ⊥
  never n k m x at e f =
      let low = slot_below t.objects.items t.slots t.laid n k at e in
      let b = block_is t m x at f in
      omega (arith, low, b.is)

  apart : (n m : ℕ) (q r : Part) (at : ℕ) → number_of t n q ≡ Some at → number_of t m r ≡ Some at → (n ≡ m) × (q ≡ r)
  apart n m (InTable k) (InTable l) at e f =
      let same = one_slot t.objects.items t.slots t.laid n m k.0 l.0 at e f in
      (same.0, ap (λ i. InTable (record { 0 = i })) same.1)
  apart n m (InTable k) (InCommon x) at e f = absurd (never n k.0 m x.0 at e f)
  apart n m (InCommon x) (InTable k) at e f = absurd (never m k.0 n x.0 at f e)
  apart n m (InCommon x) (InCommon y) at e f =
      let same = one_block t n m x.0 y.0 at e f in (same.0, ap (λ i. InCommon (record { 0 = i })) same.1)

module _ (t : InputSectionTable) (p : Project) (linked : AreLinkedCounted p t.objects.items)
    (before : AreLinkedBefore p t.objects.items)
    (ranks : List (ℕ × Bool × ℕ)) (blocks : AreBlockRanks p ranks) (same : IsPermutation ranks t.blocks.items) where
  abbrev Numbered : InputSection → Type 0
  Numbered s = IsSome (number_of t s.id.object s.id.part)

  -- the linked sections of an object
  of_linked : (i : ℕ) (o : NamedObject) → slice_get p.objects i ≡ Some o → (xs : List LinkedSection)
      → ((x : LinkedSection) → Contains xs x → Contains o.object.sections x)
      → All Numbered (map (linked_input i o) xs)
  of_linked i o at [] among = All-nil Numbered
  of_linked i o at (x ∷ xs) among =
      All-cons Numbered (linked_input i o x) (map (linked_input i o) xs)
      (has_slot t.objects.items i x.number.0 (linked i o x at (among x (0, omega arith, refl))))
      (of_linked i o at xs (λ y c. among y (suc c.0, omega (arith, c.1), c.2)))

  -- a common block
  of_block : (n : ℕ) (part : Part) → IsBlockAmong ranks n part → IsSome (number_of t n part)
  of_block n (InTable k) h = absurd h
  of_block n (InCommon x) h =
      map_some (λ (j : ℕ). t.slots + j) (position (is_ranked (n, true, x.0)) t.blocks.items)
      (has_place (is_ranked (n, true, x.0)) t.blocks.items (n, true, x.0)
      (Contains-permutation ranks t.blocks.items (n, true, x.0) same h) (alike (n, true, x.0)))

  of_object : (i : ℕ) (o : NamedObject) → slice_get p.objects i ≡ Some o → All Numbered (object_inputs p i o)
  of_object i o at =
      All-append Numbered (map (linked_input i o) o.object.sections) (common_blocks p i o)
      (of_linked i o at o.object.sections (λ x c. c))
      (λ k d l. let s : InputSection = get_or (common_blocks p i o) k d in
      of_block s.id.object s.id.part (blocks i o at k d l))

  pub are_numbered : IsTableOf p t
  are_numbered = record {
    all = one_section p Numbered of_object;
    below = below t;
    apart = apart t;
    linked = λ n before_n e. counted n before_n (slice_get t.objects.items n) refl e;
  }
    where
      counted : (n m : ℕ) (o : Option Slots) → slice_get t.objects.items n ≡ o
          → option_map (λ (x : Slots). x.linked) o ≡ Some m → m ≡ linked_in (take n p.objects)
      counted n m None is e = absurd (let none : ⊥ = cc in none)
      counted n m (Some x) is e = sym (same_Some _ _ e) ∙ before n x is
