-- The header numbers of objects, one object after another.
use Rattle.gather.proofs.Common.{All, AllPairs, LinkedSection, List, NamedObject, None, Option, Project, Slots, Some}
use Rattle.gather.proofs.Common.{[], ap, arith, cases_lt, get_or, get_or-map, get_or_append_left, get_or_from_slice_get}
use Rattle.gather.proofs.Common.{get_or_past, get_or_push, inl, inr, length, length-append, length-map, map, option_map}
use Rattle.gather.proofs.Common.{refl, same_Some, section_of, shown_input, slice_get, slice_get-get_or, slice_get-map}
use Rattle.gather.proofs.Common.{slice_get_within, subst, suc, sum_by_push, sym, take, take_more, zero, ℕ, ◌++◌, ◌+◌}
use Rattle.gather.proofs.Common.{◌-◌, ◌<◌, ◌∙◌, ◌∷◌, ◌≡◌, ◌≤◌, ◌⊎◌}
use Rattle.elfobj.specs.declared.section.Section.{Section}
use Rattle.ldmodel_project.specs.Inputs.{shown_inputs}
use Rattle.ldmodel_project.specs.declared.input.InputObject.{InputObject}
use Rattle.gather.specs.Slots.{AreLaid, AreLinkedBefore, AreLinkedCounted, linked_in, slots_of, no_slots}

-- an object whose header numbers are counted is there
pub inside : (hs : List Slots) (n k : ℕ) → k < (slots_of hs n).count → n < length hs
inside hs n k h = go (cases_lt n (length hs))
  where
    go : (n < length hs) ⊎ (length hs ≤ n) → n < length hs
    go (inl l) = l
    go (inr l) =
        let none : (slots_of hs n).count ≡ 0 = ap (λ (x : Slots). x.count) (get_or_past hs n no_slots l) in
        absurd (omega arith)

-- ---- the count of one object

-- the last of numbers that ascend is the greatest
pub reaches : (xs : List LinkedSection) (ys : List Section) (last : Section) (count : ℕ) → ys ≡ map section_of xs
    → AllPairs (λ (s t : Section). s.number.0 < t.number.0) ys → 0 < length ys → last ≡ get_or ys (length ys - 1) last
    → count ≡ last.number.0 + 1 → All (λ (x : LinkedSection). x.number.0 < count) xs
reaches xs ys last count are up some is counted k d low = go (cases_lt k (length ys - 1))
  where
    long : length ys ≡ length xs
    long = ap length are ∙ length-map xs section_of

    at : (get_or ys k last).number.0 ≡ (get_or xs k d).number.0
    at =
        ap (λ (s : Section). s.number.0) (ap (λ l. get_or l k last) are ∙ get_or-map section_of xs k d last low)

    greatest : (get_or ys (length ys - 1) last).number.0 ≡ last.number.0
    greatest = ap (λ (s : Section). s.number.0) (sym is)

    go : (k < length ys - 1) ⊎ (length ys - 1 ≤ k) → (get_or xs k d).number.0 < count
    go (inl before) =
        let less : (get_or ys k last).number.0 < (get_or ys (length ys - 1) last).number.0 =
        up k (length ys - 1) last before (omega (arith, some)) in
        omega (arith, less, at, greatest, counted)
    go (inr past) =
        let same : k ≡ length ys - 1 = omega (arith, past, low, long, some) in
        let own : (get_or ys k last).number.0 ≡ (get_or ys (length ys - 1) last).number.0 =
        ap (λ n. (get_or ys n last).number.0) same in
        omega (arith, own, at, greatest, counted)

pub none_reach : (xs : List LinkedSection) (ys : List Section) (count : ℕ) → ys ≡ map section_of xs → length ys ≤ 0
    → All (λ (x : LinkedSection). x.number.0 < count) xs
none_reach xs ys count are none k d low =
    let long : length ys ≡ length xs = ap length are ∙ length-map xs section_of in
    absurd (omega (arith, none, long, low))

-- numbers that ascend are no less than their places
at_least : (ys : List Section) (d : Section) → AllPairs (λ (s t : Section). s.number.0 < t.number.0) ys → (k : ℕ)
    → k < length ys → k ≤ (get_or ys k d).number.0
at_least ys d up zero l = omega arith
at_least ys d up (suc k) l =
    let before = at_least ys d up k (omega (arith, l)) in
    let less : (get_or ys k d).number.0 < (get_or ys (suc k) d).number.0 = up k (suc k) d (omega arith) l in
    omega (arith, before, less)

pub as_many : (xs : List LinkedSection) (ys : List Section) (last : Section) (count : ℕ) → ys ≡ map section_of xs
    → AllPairs (λ (s t : Section). s.number.0 < t.number.0) ys → 0 < length ys → last ≡ get_or ys (length ys - 1) last
    → count ≡ last.number.0 + 1 → length xs ≤ count
as_many xs ys last count are up some is counted =
    let long : length ys ≡ length xs = ap length are ∙ length-map xs section_of in
    let least = at_least ys last up (length ys - 1) (omega (arith, some)) in
    let greatest : (get_or ys (length ys - 1) last).number.0 ≡ last.number.0 =
    ap (λ (s : Section). s.number.0) (sym is) in
    omega (arith, long, least, greatest, counted, some)

-- ---- all objects, one after another

-- the header numbers of the first of these objects
pub record LaidUpTo (inputs : List InputObject) (hs : List Slots) (total linked i : ℕ) : Type 0 where
  pub long : length hs ≡ i
  pub linked_is : linked ≡ linked_in (take i (shown_inputs inputs))
  pub few : linked ≤ total
  pub before : (k : ℕ) (x : Slots) → slice_get hs k ≡ Some x → x.linked ≡ linked_in (take k (shown_inputs inputs))
  pub laid : AreLaid hs total
  pub counted : (k : ℕ) (x : InputObject) → k < i → slice_get inputs k ≡ Some x
      → All (λ (s : LinkedSection). s.number.0 < (slots_of hs k).count) x.object.now.sections

pub none_laid : (inputs : List InputObject) → LaidUpTo inputs [] 0 0 0
none_laid inputs = record {
  long = refl;
  linked_is = refl;
  few = omega arith;
  before = λ k x e. absurd (let none : ⊥ = cc in none);
  laid = record {
    within = λ n l. absurd (omega (arith, l));
    apart = λ n m l k. absurd (omega (arith, k));
  };
  counted = λ k x l at. absurd (omega (arith, l));
}

module _ (inputs : List InputObject) (i : ℕ) (x : InputObject) (hs now : List Slots)
    (total count end linked more : ℕ) (inside : i < length inputs) (here : x ≡ get_or inputs i x)
    (before : LaidUpTo inputs hs total linked i) (sum : total + count ≡ end)
    (counted_more : more ≡ linked + length x.object.now.sections)
    (reach : All (λ (s : LinkedSection). s.number.0 < count) x.object.now.sections)
    (many : length x.object.now.sections ≤ count) where
  abbrev own : Slots
  own = record { begin = total; count = count; linked = linked }

  abbrev after : List Slots
  after = hs ++ own ∷ []

  -- what the header numbers of an object of the first i + 1 are
  was : (n : ℕ) → n < i → slots_of after n ≡ slots_of hs n
  was n l = get_or_append_left hs (own ∷ []) no_slots n (omega (arith, l, before.long))

  is : (n : ℕ) → n ≡ i → slots_of after n ≡ own
  is n e = get_or_push hs own no_slots n (before.long ∙ sym e)

  within : (n : ℕ) → n < i + 1 → (slots_of after n).begin + (slots_of after n).count ≤ end
  within n l = go (cases_lt n i)
    where
      go : (n < i) ⊎ (i ≤ n) → (slots_of after n).begin + (slots_of after n).count ≤ end
      go (inl below) =
          let b : (slots_of after n).begin ≡ (slots_of hs n).begin = ap (λ (h : Slots). h.begin) (was n below) in
          let c : (slots_of after n).count ≡ (slots_of hs n).count = ap (λ (h : Slots). h.count) (was n below) in
          let old = before.laid.within n (omega (arith, below, before.long)) in
          omega (arith, b, c, old, sum)
      go (inr past) =
          let same : n ≡ i = omega (arith, past, l) in
          let b : (slots_of after n).begin ≡ total = ap (λ (h : Slots). h.begin) (is n same) in
          let c : (slots_of after n).count ≡ count = ap (λ (h : Slots). h.count) (is n same) in
          omega (arith, b, c, sum)

  apart : (n m : ℕ) → n < m → m < i + 1
      → (slots_of after n).begin + (slots_of after n).count ≤ (slots_of after m).begin
  apart n m l k = go (cases_lt m i)
    where
      n_below : n < i
      n_below = omega (arith, l, k)

      b : (slots_of after n).begin ≡ (slots_of hs n).begin
      b = ap (λ (h : Slots). h.begin) (was n n_below)

      c : (slots_of after n).count ≡ (slots_of hs n).count
      c = ap (λ (h : Slots). h.count) (was n n_below)

      go : (m < i) ⊎ (i ≤ m)
          → (slots_of after n).begin + (slots_of after n).count ≤ (slots_of after m).begin
      go (inl below) =
          let e : (slots_of after m).begin ≡ (slots_of hs m).begin = ap (λ (h : Slots). h.begin) (was m below) in
          let old = before.laid.apart n m l (omega (arith, below, before.long)) in
          omega (arith, b, c, e, old)
      go (inr past) =
          let same : m ≡ i = omega (arith, past, k) in
          let e : (slots_of after m).begin ≡ total = ap (λ (h : Slots). h.begin) (is m same) in
          let old = before.laid.within n (omega (arith, n_below, before.long)) in
          omega (arith, b, c, e, old)

  long_after : length after ≡ i + 1
  long_after = omega (arith, length-append hs (own ∷ []), before.long)

  counted : (k : ℕ) (y : InputObject) → k < i + 1 → slice_get inputs k ≡ Some y
      → All (λ (s : LinkedSection). s.number.0 < (slots_of after k).count) y.object.now.sections
  counted k y l at = go (cases_lt k i)
    where
      go : (k < i) ⊎ (i ≤ k)
          → All (λ (s : LinkedSection). s.number.0 < (slots_of after k).count) y.object.now.sections
      go (inl below) =
          subst (λ (h : Slots). All (λ (s : LinkedSection). s.number.0 < h.count) y.object.now.sections)
          (sym (was k below)) (before.counted k y below at)
      go (inr past) =
          let same : k ≡ i = omega (arith, past, l) in
          let one : x ≡ y =
          here ∙ ap (λ n. get_or inputs n x) (sym same) ∙ get_or_from_slice_get inputs k y x at in
          subst (λ (h : Slots). All (λ (s : LinkedSection). s.number.0 < h.count) y.object.now.sections)
          (sym (is k same))
          (subst (λ (z : InputObject). All (λ (s : LinkedSection). s.number.0 < count) z.object.now.sections) one reach)

  abbrev objects : List NamedObject
  objects = shown_inputs inputs

  linked_after : more ≡ linked_in (take (i + 1) objects)
  linked_after =
      let low : i < length objects = omega (arith, inside, length-map inputs shown_input) in
      let is : get_or objects i (shown_input x) ≡ shown_input x =
      get_or-map shown_input inputs i x (shown_input x) inside ∙ ap shown_input (sym here) in
      let split : linked_in (take (i + 1) objects)
      ≡ linked_in (take i objects) + length x.object.now.sections =
      ap linked_in (take_more objects i (shown_input x) low ∙ ap (λ (o : NamedObject). take i objects ++ o ∷ []) is)
      ∙ sum_by_push (λ (o : NamedObject). length o.object.sections) (take i objects) (shown_input x) in
      omega (arith, counted_more, before.linked_is, split)

  before_after : (k : ℕ) (y : Slots) → slice_get after k ≡ Some y → y.linked ≡ linked_in (take k objects)
  before_after k y e = go (cases_lt k i)
    where
      is_y : get_or after k no_slots ≡ y
      is_y = get_or_from_slice_get after k y no_slots e

      go : (k < i) ⊎ (i ≤ k) → y.linked ≡ linked_in (take k objects)
      go (inl below) =
          before.before k y (slice_get-get_or hs k no_slots (omega (arith, below, before.long))
          ∙ ap (λ (z : Slots). Some z) (sym (was k below) ∙ is_y))
      go (inr past) =
          let same : k ≡ i = omega (arith, past, slice_get_within after k y e, long_after) in
          ap (λ (z : Slots). z.linked) (sym is_y ∙ is k same) ∙ before.linked_is
          ∙ ap (λ n. linked_in (take n objects)) (sym same)

  pub one_laid : now ≡ after → LaidUpTo inputs now end more (i + 1)
  one_laid e =
      subst (λ (l : List Slots). LaidUpTo inputs l end more (i + 1)) (sym e)
      (record {
        long = long_after;
        linked_is = linked_after;
        few = omega (arith, before.few, sum, counted_more, many);
        before = before_after;
        laid = record {
          within = λ n l. within n (omega (arith, l, long_after));
          apart = λ n m l k. apart n m l (omega (arith, k, long_after));
        };
        counted = counted;
      })

-- the linked sections of all objects are counted then
pub all_linked : (p : Project) (inputs : List InputObject) (hs : List Slots) (total linked i : ℕ)
    → shown_inputs inputs ≡ p.objects → length inputs ≤ i → LaidUpTo inputs hs total linked i → AreLinkedCounted p hs
all_linked p inputs hs total linked i same past h j o x at c = go (slice_get inputs j) refl
  where
    shown : option_map shown_input (slice_get inputs j) ≡ Some o
    shown = sym (slice_get-map shown_input inputs j) ∙ ap (λ l. slice_get l j) same ∙ at

    go : (m : Option InputObject) → slice_get inputs j ≡ m → x.number.0 < (slots_of hs j).count
    go None e =
        let gone : None ≡ Some o = ap (option_map shown_input) (sym e) ∙ shown in
        absurd (let none : ⊥ = cc in none)
    go (Some y) e =
        let is : shown_input y ≡ o = same_Some _ _ (sym (ap (option_map shown_input) e) ∙ shown) in
        let low : j < i = omega (arith, past, slice_get_within inputs j y e) in
        let own : All (λ (s : LinkedSection). s.number.0 < (slots_of hs j).count) o.object.sections =
        subst (λ (z : NamedObject). All (λ (s : LinkedSection). s.number.0 < (slots_of hs j).count) z.object.sections)
        is (h.counted j y low e) in
        subst (λ (s : LinkedSection). s.number.0 < (slots_of hs j).count) c.2 (own c.0 x c.1)

-- and so are those of the objects before each
pub all_before : (p : Project) (inputs : List InputObject) (hs : List Slots) (total linked i : ℕ)
    → shown_inputs inputs ≡ p.objects → LaidUpTo inputs hs total linked i → AreLinkedBefore p hs
all_before p inputs hs total linked i same h k x e =
    h.before k x e ∙ ap (λ (os : List NamedObject). linked_in (take k os)) same
