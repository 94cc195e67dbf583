-- Input sections ascend: by object, in an object sections before common blocks, and these by their numbers.
use Rattle.gather.proofs.Common.{All, All-head, All-tail, AllPairs, AscendingSections, Bool, Common, Decision}
use Rattle.gather.proofs.Common.{Duplicate, Entry, InCommon, InTable, InputSection, IsSectionAt, LinkedSection, List}
use Rattle.gather.proofs.Common.{NamedObject, NamedSymbol, None, Option, Project, Provided, Script, SectionId, Some}
use Rattle.gather.proofs.Common.{Strong, Undefined, Weak, [], and_parts, ap, arith, block_at, common_blocks, cond}
use Rattle.gather.proofs.Common.{cons_option, decision, enumerate_from, eqb, eqb-true, false, filter_map, flat_map}
use Rattle.gather.proofs.Common.{flat_map-cons, inl, input_sections, inr, linked_input, map, map-append, object_inputs}
use Rattle.gather.proofs.Common.{refl, section_of, slice_get, subst, suc, sym, true, zero, ℕ, ⊎_elim, ◌++◌, ◌+◌, ◌<◌}
use Rattle.gather.proofs.Common.{◌∙◌, ◌∷◌, ◌≡◌, ◌≤◌, ◌⊎◌}
use Rattle.elfobj.specs.file.declared.section.Section.{Section}
use Rattle.ldmodel.specs.InputSections.{block_of, common_block, is_same_entry}
use Rattle.ldmodel.specs.declared.sections.Part.{Part}
use Rattle.ldmodel_laws.proofs.EachOf.{each_append, each_imply}

-- as a number, sections before blocks
abbrev kind_of : Part → ℕ
kind_of (InTable k) = 0
kind_of (InCommon s) = 1

abbrev number_in : Part → ℕ
number_in (InTable k) = k.0
number_in (InCommon s) = s.0

abbrev Precedes : SectionId → SectionId → Type 0
Precedes x y = (x.object < y.object)
    ⊎ ((x.object ≡ y.object)
    × ((kind_of x.part < kind_of y.part) ⊎ ((kind_of x.part ≡ kind_of y.part) × (number_in x.part < number_in y.part))))

not_itself : (x : SectionId) → Precedes x x → ⊥
not_itself x h = ⊎_elim (λ l. omega (arith, l)) (λ e. ⊎_elim (λ l. omega (arith, l)) (λ r. omega (arith, r.1)) e.1) h

abbrev Before : SectionId → List SectionId → Type 0
Before x [] = Unit {0}
Before x (y ∷ ys) = Precedes x y × Before x ys

abbrev Ascend : List SectionId → Type 0
Ascend [] = Unit {0}
Ascend (x ∷ xs) = Before x xs × Ascend xs

abbrev Each : (SectionId → Type 0) → List SectionId → Type 0
Each P [] = Unit {0}
Each P (x ∷ xs) = P x × Each P xs

before_each : (x : SectionId) (P : SectionId → Type 0) → ((y : SectionId) → P y → Precedes x y) → (ys : List SectionId)
    → Each P ys → Before x ys
before_each x P f [] a = tt
before_each x P f (y ∷ ys) a = (f y a.0, before_each x P f ys a.1)

before_append : (x : SectionId) (xs ys : List SectionId) → Before x xs → Before x ys → Before x (xs ++ ys)
before_append x [] ys a b = b
before_append x (y ∷ xs) ys a b = (a.0, before_append x xs ys a.1 b)

-- two lists, of which each member of the one comes before each of the other
ascend_append : (P Q : SectionId → Type 0) → ((x y : SectionId) → P x → Q y → Precedes x y) → (xs ys : List SectionId)
    → Ascend xs → Ascend ys → Each P xs → Each Q ys → Ascend (xs ++ ys)
ascend_append P Q f [] ys a b e g = b
ascend_append P Q f (x ∷ xs) ys a b e g =
    (before_append x xs ys a.0 (before_each x Q (λ y. f x y e.0) ys g), ascend_append P Q f xs ys a.1 b e.1 g)

-- a member at a later place
before_at : (x : SectionId) (ys : List SectionId) (k : ℕ) (y : SectionId) → Before x ys → slice_get ys k ≡ Some y
    → Precedes x y
before_at x [] k y b e = cc
before_at x (z ∷ zs) zero y b e = let same : z ≡ y = cc in subst (Precedes x) same b.0
before_at x (z ∷ zs) (suc k) y b e = before_at x zs k y b.1 e

apart : (xs : List SectionId) (a b : ℕ) (x : SectionId) → Ascend xs → slice_get xs a ≡ Some x → slice_get xs b ≡ Some x
    → a ≡ b
apart [] a b x up e g = cc
apart (z ∷ zs) zero zero x up e g = refl
apart (z ∷ zs) zero (suc b) x up e g = let same : z ≡ x = cc in
    absurd (not_itself x (subst (λ w. Precedes w x) same (before_at z zs b x up.0 g)))
apart (z ∷ zs) (suc a) zero x up e g = let same : z ≡ x = cc in
    absurd (not_itself x (subst (λ w. Precedes w x) same (before_at z zs a x up.0 e)))
apart (z ∷ zs) (suc a) (suc b) x up e g = ap suc (apart zs a b x up.1 e g)

abbrev ids : List InputSection → List SectionId
ids ss = map (λ (s : InputSection). s.id) ss

abbrev IsTableOf : ℕ → SectionId → Type 0
IsTableOf n x = (x.object ≡ n) × (kind_of x.part ≡ 0)

abbrev IsBlockFrom : ℕ → ℕ → SectionId → Type 0
IsBlockFrom n k x = (x.object ≡ n) × (kind_of x.part ≡ 1) × (k ≤ number_in x.part)

-- linked sections
pairs_head : (s : LinkedSection) (ss : List LinkedSection)
    → AllPairs (λ (s t : Section). s.number.0 < t.number.0) (map section_of (s ∷ ss))
    → All (λ (t : Section). s.number.0 < t.number.0) (map section_of ss)
pairs_head s ss h = λ k d l. h zero (suc k) d (omega arith) (omega (arith, l))

pairs_tail : (s : LinkedSection) (ss : List LinkedSection)
    → AllPairs (λ (s t : Section). s.number.0 < t.number.0) (map section_of (s ∷ ss))
    → AllPairs (λ (s t : Section). s.number.0 < t.number.0) (map section_of ss)
pairs_tail s ss h = λ i j d l m. h (suc i) (suc j) d (omega (arith, l)) (omega (arith, m))

linked_before : (i : ℕ) (o : NamedObject) (s : LinkedSection) (ss : List LinkedSection)
    → All (λ (t : Section). s.number.0 < t.number.0) (map section_of ss)
    → Before (record { object = i; part = InTable s.number }) (ids (map (linked_input i o) ss))
linked_before i o s [] h = tt
linked_before i o s (t ∷ ts) h = (
  inr (refl, inr (refl, All-head (λ (t : Section). s.number.0 < t.number.0) (section_of t) (map section_of ts) h)),
  linked_before i o s ts (All-tail (λ (t : Section). s.number.0 < t.number.0) (section_of t) (map section_of ts) h),
)

linked_ascend : (i : ℕ) (o : NamedObject) (ss : List LinkedSection)
    → AllPairs (λ (s t : Section). s.number.0 < t.number.0) (map section_of ss)
    → Ascend (ids (map (linked_input i o) ss))
linked_ascend i o [] h = tt
linked_ascend i o (s ∷ ss) h = (linked_before i o s ss (pairs_head s ss h), linked_ascend i o ss (pairs_tail s ss h))

linked_tables : (i : ℕ) (o : NamedObject) (ss : List LinkedSection)
    → Each (IsTableOf i) (ids (map (linked_input i o) ss))
linked_tables i o [] = tt
linked_tables i o (s ∷ ss) = ((refl, refl), linked_tables i o ss)

-- common blocks
block_is : (name : List ℕ) (e : Entry) (d : Decision) (s : InputSection) → block_of name e d ≡ Some s → s.id
    ≡ record { object = e.object; part = InCommon (record { 0 = e.symbol }) }
block_is name e (Common owner size al) s h = go (is_same_entry owner e) refl h
  where
    go : (b : Bool) → is_same_entry owner e ≡ b → cond b (Some (common_block name owner size al)) None ≡ Some s → s.id
        ≡ record { object = e.object; part = InCommon (record { 0 = e.symbol }) }
    go false same g = cc
    go true same g =
        let both = and_parts (eqb owner.object e.object) (eqb owner.symbol e.symbol) same in
        let is : common_block name owner size al ≡ s = cc in
        ap (λ (x : InputSection). x.id) (sym is)
        ∙ ap (λ n. record { object = n; part = InCommon (record { 0 = owner.symbol }) })
        (eqb-true owner.object e.object both.0)
        ∙ ap (λ n. record { object = e.object; part = InCommon (record { 0 = n }) })
        (eqb-true owner.symbol e.symbol both.1)
block_is name e (Strong x) s h = cc
block_is name e Script s h = cc
block_is name e (Weak x) s h = cc
block_is name e Provided s h = cc
block_is name e Undefined s h = cc
block_is name e Duplicate s h = cc

module _ (p : Project) (i : ℕ) (o : NamedObject) where
  abbrev found : ℕ → List NamedSymbol → List SectionId
  found k ss = ids (filter_map (block_at p i o) (enumerate_from k ss))

  blocks_from : (k : ℕ) (ss : List NamedSymbol) → Each (IsBlockFrom i k) (found k ss)
  blocks_from k [] = tt
  blocks_from k (s ∷ ss) =
      go (block_at p i o (k, s)) refl
      (each_imply (IsBlockFrom i (k + 1)) (IsBlockFrom i k) (λ x h. (h.0, h.1, omega (arith, h.2))) (found (k + 1) ss)
      (blocks_from (k + 1) ss))
    where
      go : (b : Option InputSection) → block_at p i o (k, s) ≡ b → Each (IsBlockFrom i k) (found (k + 1) ss)
          → Each (IsBlockFrom i k) (ids (cons_option b (filter_map (block_at p i o) (enumerate_from (k + 1) ss))))
      go None e rest = rest
      go (Some x) e rest =
          let id : x.id ≡ record { object = i; part = InCommon (record { 0 = k }) } =
          block_is o.name (record { object = i; symbol = k }) (decision p s.name) x e in
          (subst (IsBlockFrom i k) (sym id) (refl, refl, omega arith), rest)

  blocks_ascend : (k : ℕ) (ss : List NamedSymbol) → Ascend (found k ss)
  blocks_ascend k [] = tt
  blocks_ascend k (s ∷ ss) = go (block_at p i o (k, s)) refl (blocks_ascend (k + 1) ss)
    where
      go : (b : Option InputSection) → block_at p i o (k, s) ≡ b → Ascend (found (k + 1) ss)
          → Ascend (ids (cons_option b (filter_map (block_at p i o) (enumerate_from (k + 1) ss))))
      go None e rest = rest
      go (Some x) e rest =
          let id : x.id ≡ record { object = i; part = InCommon (record { 0 = k }) } =
          block_is o.name (record { object = i; symbol = k }) (decision p s.name) x e in (
            subst (λ y. Before y (found (k + 1) ss)) (sym id)
                (before_each (record { object = i; part = InCommon (record { 0 = k }) }) (IsBlockFrom i (k + 1))
                (λ y h. inr (sym h.0, inr (sym h.1, omega (arith, h.2)))) (found (k + 1) ss)
                (blocks_from (k + 1) ss)),
            rest,
          )

  abbrev of_object : List SectionId
  of_object = ids (object_inputs p i o)

  split : of_object ≡ ids (map (linked_input i o) o.object.sections) ++ found 0 o.object.symbols
  split = map-append (λ (s : InputSection). s.id) (map (linked_input i o) o.object.sections) (common_blocks p i o)

  object_ascends : AllPairs (λ (s t : Section). s.number.0 < t.number.0) (map section_of o.object.sections)
      → Ascend of_object
  object_ascends h = subst Ascend (sym split)
      (ascend_append (IsTableOf i) (IsBlockFrom i 0) (λ x y a b. inr (a.0 ∙ sym b.0, inl (omega (arith, a.1, b.1))))
      (ids (map (linked_input i o) o.object.sections)) (found 0 o.object.symbols)
      (linked_ascend i o o.object.sections h) (blocks_ascend 0 o.object.symbols)
      (linked_tables i o o.object.sections) (blocks_from 0 o.object.symbols))

  of_this : Each (λ x. x.object ≡ i) of_object
  of_this = subst (Each (λ x. x.object ≡ i)) (sym split)
      (each_append (λ x. x.object ≡ i) (ids (map (linked_input i o) o.object.sections)) (found 0 o.object.symbols)
      (each_imply (IsTableOf i) (λ x. x.object ≡ i) (λ x h. h.0) (ids (map (linked_input i o) o.object.sections))
      (linked_tables i o o.object.sections))
      (each_imply (IsBlockFrom i 0) (λ x. x.object ≡ i) (λ x h. h.0) (found 0 o.object.symbols)
      (blocks_from 0 o.object.symbols)))

module _ (p : Project) where
  abbrev of_all : ℕ → List NamedObject → List SectionId
  of_all n os = ids (flat_map (λ (o : ℕ × NamedObject). object_inputs p o.0 o.1) (enumerate_from n os))

  parts : (n : ℕ) (o : NamedObject) (os : List NamedObject) → of_all n (o ∷ os) ≡ ids (object_inputs p n o)
      ++ of_all (n + 1) os
  parts n o os =
      ap ids (flat_map-cons (λ (o : ℕ × NamedObject). object_inputs p o.0 o.1) (n, o) (enumerate_from (n + 1) os))
      ∙ map-append (λ (s : InputSection). s.id) (object_inputs p n o)
      (flat_map (λ (o : ℕ × NamedObject). object_inputs p o.0 o.1) (enumerate_from (n + 1) os))

  from_object : (n : ℕ) (os : List NamedObject) → Each (λ x. n ≤ x.object) (of_all n os)
  from_object n [] = tt
  from_object n (o ∷ os) = subst (Each (λ x. n ≤ x.object)) (sym (parts n o os))
      (each_append (λ x. n ≤ x.object) (ids (object_inputs p n o)) (of_all (n + 1) os)
      (each_imply (λ x. x.object ≡ n) (λ x. n ≤ x.object) (λ x h. omega (arith, h)) (ids (object_inputs p n o))
      (of_this p n o))
      (each_imply (λ x. n + 1 ≤ x.object) (λ x. n ≤ x.object) (λ x h. omega (arith, h)) (of_all (n + 1) os)
      (from_object (n + 1) os)))

  all_ascend : (n : ℕ) (os : List NamedObject)
      → All (λ (o : NamedObject).
      AllPairs (λ (s t : Section). s.number.0 < t.number.0) (map section_of o.object.sections)) os
      → Ascend (of_all n os)
  all_ascend n [] h = tt
  all_ascend n (o ∷ os) h = subst Ascend (sym (parts n o os))
      (ascend_append (λ x. x.object ≡ n) (λ y. n + 1 ≤ y.object) (λ x y a b. inl (omega (arith, a, b)))
      (ids (object_inputs p n o)) (of_all (n + 1) os)
      (object_ascends p n o
      (All-head (λ (o : NamedObject).
      AllPairs (λ (s t : Section). s.number.0 < t.number.0) (map section_of o.object.sections)) o os h))
      (all_ascend (n + 1) os
      (All-tail (λ (o : NamedObject).
      AllPairs (λ (s t : Section). s.number.0 < t.number.0) (map section_of o.object.sections)) o os h))
      (of_this p n o) (from_object (n + 1) os))

id_at : (ss : List InputSection) (k : ℕ) (s : InputSection) → slice_get ss k ≡ Some s → slice_get (ids ss) k ≡ Some s.id
id_at [] k s e = cc
id_at (t ∷ ts) zero s e = let same : t ≡ s = cc in ap (λ (x : InputSection). Some x.id) same
id_at (t ∷ ts) (suc k) s e = id_at ts k s e

pub sections_apart : (p : Project) → AscendingSections p → (a b : ℕ) (s t : InputSection) → IsSectionAt p a s
    → IsSectionAt p b t → s.id ≡ t.id → a ≡ b
unfolding input_sections
sections_apart p up a b s t e g same =
    apart (ids (input_sections p)) a b s.id (all_ascend p 0 p.objects up) (id_at (input_sections p) a s e)
    (id_at (input_sections p) b t g ∙ ap (λ x. Some x) (sym same))
