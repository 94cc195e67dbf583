-- Output sections with file bytes do not overlap in the image.
use Rattle.ldmodel_laws.proofs.Common.{Bool, Each, EachLater, List, PlacedOutput, Segment, [], and_parts, ap, arith}
use Rattle.ldmodel_laws.proofs.Common.{cond, eq-eqb, eq-zero-or-pos, eqb-true, false, false≢true, filter, filter-append}
use Rattle.ldmodel_laws.proofs.Common.{flat_map, fold, groups, leb-true, length, map, not, refl, segments, subst, sym}
use Rattle.ldmodel_laws.proofs.Common.{true, ℕ, ⊎_elim, ◌++◌, ◌+◌, ◌-◌, ◌<◌, ◌==◌, ◌∙◌, ◌∷◌, ◌≡◌, ◌≤◌}
use Rattle.ldmodel_laws.specs.FileLayout.{Neighbours, IsTogether, Shares}
use Rattle.ldmodel.specs.Segments.{Group, SectionInFile, in_file, in_segment, headers_end, segment_start, end_of, reach}
use Rattle.ldmodel.specs.Segments.{file_size, file_end, group_sections, begun, begun_from, nonempty}
use Rattle.ldmodel_laws.specs.FileOrder.{with_file_bytes, end_in_file, AreInFileOrder}
use Rattle.ldmodel_laws.proofs.Grouped.{is_grouping}
use Rattle.ldmodel_laws.proofs.Segmented.{same_count}
use Rattle.ldmodel_laws.proofs.EachOf.{each_imply, each_and, each_append, each_filter, later_filter, each_parts}

-- of two neighbours in a segment the second begins at the end of the first or past it
after_one : (p q : PlacedOutput) → Shares p q → end_of p ≤ q.start
after_one p q h =
    let less = (and_parts _ _ h).0 in
    let least = (and_parts _ _ less).0 in
    leb-true (end_of p) q.start (and_parts _ _ least).1

each_passes : {X : Type 0} (test : X → Bool) (xs : List X) → Each (λ x. test x ≡ true) (filter test xs)
each_passes test [] = tt
each_passes test (x ∷ xs) = go (test x) refl (each_passes test xs)
  where
    go : (b : Bool) → test x ≡ b → Each (λ y. test y ≡ true) (filter test xs)
        → Each (λ y. test y ≡ true) (cond b (x ∷ filter test xs) (filter test xs))
    go true e rest = (e, rest)
    go false e rest = rest

pub later_both : {X : Type 0} (R : X → X → Type 0) (xs ys : List X) → EachLater R xs → EachLater R ys
    → Each (λ x. Each (R x) ys) xs → EachLater R (xs ++ ys)
later_both R [] ys h k l = k
later_both R (x ∷ xs) ys h k l = (each_append (R x) xs ys h.0 l.0, later_both R xs ys h.1 k l.1)

-- ---- a segment

abbrev HasSize : PlacedOutput → Type 0
HasSize q = 0 < q.size

-- sections one past the other from an address on
abbrev Ascends : ℕ → List PlacedOutput → Type 0
Ascends from [] = Unit {0}
Ascends from (q ∷ qs) = (from ≤ q.start) × Ascends (end_of q) qs

ascends : (p : PlacedOutput) (qs : List PlacedOutput) → Neighbours Shares (p ∷ qs) → Ascends (end_of p) qs
ascends p [] h = tt
ascends p (q ∷ qs) h = (after_one p q h.0, ascends q qs h.1)

ascends_below : (from to : ℕ) → from ≤ to → (qs : List PlacedOutput) → Ascends to qs → Ascends from qs
ascends_below from to l [] h = tt
ascends_below from to l (q ∷ qs) h = (omega (arith, l, h.0), h.1)

abbrev Past : ℕ → SectionInFile → Type 0
Past n x = n ≤ x.offset

abbrev Before : SectionInFile → SectionInFile → Type 0
Before x y = end_in_file x ≤ y.offset

abbrev with_bytes : List SectionInFile → List SectionInFile
with_bytes xs = filter (λ (x : SectionInFile). x.section.has_file_bytes) xs

module _ (g : Segment) where
  abbrev base : ℕ
  base = segment_start g

  abbrev placed : List PlacedOutput → List SectionInFile
  placed qs = map (in_segment g) qs

  past_all : (from : ℕ) → base ≤ from → (qs : List PlacedOutput) → Ascends from qs
      → Each (Past (g.offset + (from - base))) (placed qs)
  past_all from l [] h = tt
  past_all from l (q ∷ qs) h =
      let more = past_all (end_of q) (omega (arith, l, h.0)) qs h.1 in (
        omega (arith, l, h.0),
        each_imply (Past (g.offset + (end_of q - base))) (Past (g.offset + (from - base)))
            (λ x k. omega (arith, k, l, h.0)) (placed qs) more,
      )

  in_order : (from : ℕ) → base ≤ from → (qs : List PlacedOutput) → Ascends from qs → EachLater Before (placed qs)
  in_order from l [] h = tt
  in_order from l (q ∷ qs) h =
      let up : base ≤ end_of q = omega (arith, l, h.0) in (
        each_imply (Past (g.offset + (end_of q - base))) (Before (in_segment g q)) (λ x k. omega (arith, k, l, h.0))
            (placed qs) (past_all (end_of q) up qs h.1),
        in_order (end_of q) up qs h.1,
      )

  abbrev last_reach : ℕ → List PlacedOutput → ℕ
  last_reach n qs = fold (λ m (q : PlacedOutput). cond q.has_file_bytes (reach g.group q) m) n qs

  -- the end of the last file bytes is past those of all
  last_above : (n from : ℕ) (qs : List PlacedOutput) → base ≤ from → n ≤ from - base → Ascends from qs
      → n ≤ last_reach n qs
  last_above n from [] l m h = omega arith
  last_above n from (q ∷ qs) l m h =
      go q.has_file_bytes (last_above (reach g.group q) (end_of q) qs (omega (arith, l, h.0)) (omega arith) h.1)
      (last_above n (end_of q) qs (omega (arith, l, h.0)) (omega (arith, m, l, h.0)) h.1)
    where
      go : (b : Bool) → reach g.group q ≤ last_reach (reach g.group q) qs → n ≤ last_reach n qs
          → n ≤ last_reach (cond b (reach g.group q) n) qs
      go true k one = omega (arith, k, m, l, h.0)
      go false k one = one

  abbrev EndsBy : ℕ → SectionInFile → Type 0
  EndsBy n x = end_in_file x ≤ n

  -- with file bytes they end by the last one's end
  ends_by : (n from : ℕ) (qs : List PlacedOutput) → base ≤ from → n ≤ from - base → Ascends from qs
      → Each (EndsBy (g.offset + last_reach n qs)) (with_bytes (placed qs))
  ends_by n from [] l m h = tt
  ends_by n from (q ∷ qs) l m h =
      go q.has_file_bytes (ends_by (reach g.group q) (end_of q) qs up (omega arith) h.1)
      (ends_by n (end_of q) qs up (omega (arith, m, l, h.0)) h.1)
    where
      up : base ≤ end_of q
      up = omega (arith, l, h.0)

      last : reach g.group q ≤ last_reach (reach g.group q) qs
      last = last_above (reach g.group q) (end_of q) qs up (omega arith) h.1

      go : (b : Bool) → Each (EndsBy (g.offset + last_reach (reach g.group q) qs)) (with_bytes (placed qs))
          → Each (EndsBy (g.offset + last_reach n qs)) (with_bytes (placed qs))
          → Each (EndsBy (g.offset + last_reach (cond b (reach g.group q) n) qs))
          (cond b (in_segment g q ∷ with_bytes (placed qs)) (with_bytes (placed qs)))
      go true one other = (omega (arith, last, l, h.0), one)
      go false one other = other

  sizes : (qs : List PlacedOutput) → Each HasSize qs → Each (λ (x : SectionInFile). 0 < x.section.size) (placed qs)
  sizes [] h = tt
  sizes (q ∷ qs) h = (h.0, sizes qs h.1)

  module _ (together : IsTogether g.group) (some : Each HasSize (group_sections g.group)) where
    all_ascend : Ascends base (group_sections g.group)
    all_ascend = (omega arith, ascends g.group.first g.group.others together)

    own_past : Each (Past g.offset) (placed (group_sections g.group))
    own_past = each_imply (Past (g.offset + (base - base))) (Past g.offset) (λ x k.
        omega (arith, k)) (placed (group_sections g.group)) (past_all base (omega arith)
        (group_sections g.group) all_ascend)

    own_order : EachLater Before (placed (group_sections g.group))
    own_order = in_order base (omega arith) (group_sections g.group) all_ascend

    own_end : (end : ℕ) → Each (EndsBy (file_end end g)) (with_bytes (placed (group_sections g.group)))
    own_end end =
        each_and (EndsBy (g.offset + file_size g.group)) (λ x. (g.offset ≤ x.offset) × (0 < x.section.size))
        (EndsBy (file_end end g)) (λ x k l. go (file_size g.group == 0) refl x k l)
        (with_bytes (placed (group_sections g.group)))
        (ends_by 0 base (group_sections g.group) (omega arith) (omega arith) all_ascend)
        (each_and (Past g.offset) (λ x. 0 < x.section.size) (λ x. (g.offset ≤ x.offset) × (0 < x.section.size))
        (λ x k l. (k, l)) (with_bytes (placed (group_sections g.group)))
        (each_filter (Past g.offset) (λ x. x.section.has_file_bytes) (placed (group_sections g.group)) own_past)
        (each_filter (λ x. 0 < x.section.size) (λ x. x.section.has_file_bytes) (placed (group_sections g.group))
        (sizes (group_sections g.group) some)))
      where
        go : (b : Bool) → (file_size g.group == 0) ≡ b → (x : SectionInFile) → EndsBy (g.offset + file_size g.group) x
            → (g.offset ≤ x.offset) × (0 < x.section.size) → EndsBy (cond b end (g.offset + file_size g.group)) x
        go true e x k l = let none : file_size g.group ≡ 0 = eqb-true (file_size g.group) 0 e in
            absurd (omega (arith, k, none, l.0, l.1))
        go false e x k l = k

-- ---- all segments

further : (end : ℕ) (g : Segment) → end ≤ g.offset → end ≤ file_end end g
further end g h = go (file_size g.group == 0)
  where
    go : (b : Bool) → end ≤ cond b end (g.offset + file_size g.group)
    go true = omega arith
    go false = omega (arith, h)

abbrev all_in_file : List Segment → List SectionInFile
all_in_file gs = with_bytes (in_file gs)

record InOrder (end : ℕ) (gs : List Segment) : Type 0 where
  pub past : Each (Past end) (all_in_file gs)
  pub later : EachLater Before (all_in_file gs)
  pub by : Each (λ (x : SectionInFile). end_in_file x ≤ fold file_end end gs) (all_in_file gs)
  pub up : end ≤ fold file_end end gs

abbrev HaveSize : Group → Type 0
HaveSize g = Each HasSize (group_sections g)

all_in_order : (end : ℕ) (gs : List Group) → Each IsTogether gs → Each HaveSize gs → InOrder end (begun_from end gs)
all_in_order end [] h k = record { past = tt; later = tt; by = tt; up = omega arith }
all_in_order end (g ∷ gs) h k =
    let s : Segment = begun end g in
    let next : ℕ = file_end end s in
    let more : List Segment = begun_from next gs in
    let rest : InOrder next more = all_in_order next gs h.1 k.1 in
    let at : end ≤ s.offset = omega arith in
    let up : end ≤ next = further end s at in
    let own : List SectionInFile = with_bytes (placed s (group_sections g)) in
    let split : all_in_file (s ∷ more) ≡ own ++ all_in_file more =
    filter-append (λ (x : SectionInFile). x.section.has_file_bytes) (placed s (group_sections g)) (in_file more) in
    let ends : Each (EndsBy s next) own = own_end s h.0 k.0 end in
    record {
      past = subst (Each (Past end)) (sym split) (each_append (Past end) own (all_in_file more)
          (each_imply (Past s.offset) (Past end) (λ x l. omega (arith, l, at)) own
          (each_filter (Past s.offset) (λ x. x.section.has_file_bytes) (placed s (group_sections g))
          (own_past s h.0 k.0)))
          (each_imply (Past next) (Past end) (λ x l. omega (arith, l, up)) (all_in_file more) rest.past));
      later = subst (EachLater Before) (sym split) (later_both Before own (all_in_file more)
          (later_filter Before (λ x. x.section.has_file_bytes) (placed s (group_sections g)) (own_order s h.0 k.0))
          rest.later
          (each_imply (EndsBy s next) (λ x. Each (Before x) (all_in_file more)) (λ x l.
          each_imply (Past next) (Before x) (λ y m. omega (arith, l, m)) (all_in_file more) rest.past) own ends));
      by = subst (Each (λ (x : SectionInFile). end_in_file x ≤ fold file_end next more)) (sym split)
          (each_append (λ (x : SectionInFile). end_in_file x ≤ fold file_end next more) own (all_in_file more)
          (each_imply (EndsBy s next) (λ x. end_in_file x ≤ fold file_end next more) (λ x l. omega (arith, l, rest.up))
          own ends) rest.by);
      up = omega (arith, up, rest.up);
    }

has_size : (qs : List PlacedOutput) → Each HasSize (nonempty qs)
has_size qs = each_imply (λ q. not (q.size == 0) ≡ true) HasSize (λ q h. go q (q.size == 0) refl h) (nonempty qs)
    (each_passes (λ (q : PlacedOutput). not (q.size == 0)) qs)
  where
    go : (q : PlacedOutput) (b : Bool) → (q.size == 0) ≡ b → not b ≡ true → 0 < q.size
    go q true e h = absurd (false≢true h)
    go q false e h = ⊎_elim (λ z. absurd (false≢true (sym e ∙ eq-eqb q.size 0 z))) (λ l. l) (eq-zero-or-pos q.size)

have_size : (gs : List Group) → Each HasSize (flat_map group_sections gs) → Each HaveSize gs
have_size [] h = tt
have_size (g ∷ gs) h = let parts = each_parts HasSize (group_sections g) (flat_map group_sections gs) h in
    (parts.0, have_size gs parts.1)

pub files_in_order : (sections : List PlacedOutput) → AreInFileOrder (segments sections)
unfolding segments
files_in_order sections =
    let gs : List Group = groups (nonempty sections) in
    let cut = is_grouping (nonempty sections) in
    let end : ℕ = headers_end (length gs) in
    let all : InOrder end (begun_from end gs) =
    all_in_order end gs cut.together (have_size gs (subst (Each HasSize) (sym cut.parts) (has_size sections))) in
    let count : headers_end (length gs) ≡ headers_end (length (begun_from end gs)) =
    ap headers_end (sym (same_count end gs)) in
    record {
      inside = subst (λ n. Each (λ (x : SectionInFile). (n ≤ x.offset)
          × (end_in_file x ≤ fold file_end n (begun_from end gs))) (with_file_bytes (begun_from end gs))) count
          (each_and (Past end) (λ x. end_in_file x ≤ fold file_end end (begun_from end gs)) (λ x. (end ≤ x.offset)
          × (end_in_file x ≤ fold file_end end (begun_from end gs))) (λ x k l.
          (k, l)) (all_in_file (begun_from end gs)) all.past all.by);
      ascend = all.later;
    }
