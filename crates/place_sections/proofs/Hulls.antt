-- Marks of a tree of ranges.
use Rattle.place_sections.proofs.Common.{Around, Bool, Extent, Kept, List, Marked, MarkedAt, Missed, None, Option, Some}
use Rattle.place_sections.proofs.Common.{Under, and_parts, ap, arith, below, cases_eq, false, false_from_ne_true, found}
use Rattle.place_sections.proofs.Common.{get_or, get_or-set_other, get_or-set_same, get_or_default, here, inl, inr}
use Rattle.place_sections.proofs.Common.{is_some, length, length-set, lt-ltb, ltb-true, max, min, nat_lt, not, overlap}
use Rattle.place_sections.proofs.Common.{refl, same, set, subst, sym, true, ℕ, ◌&&◌, ◌*◌, ◌+◌, ◌<◌, ◌==◌, ◌∙◌, ◌≡◌, ◌≢◌}
use Rattle.place_sections.proofs.Common.{◌≤◌}
use Rattle.place_sections.specs.Hulls.{around, Within, may_overlap}
use Rattle.place_sections.proofs.DisjointRanges.{no_zero}
use Rattle.place_sections.specs.declared.hull.Hull.{Hull}

-- an option that is not `Some`
pub none_is : (o : Option ℕ) → is_some o ≡ false → o ≡ None
none_is None is = refl
none_is (Some x) is = absurd (cc is)

record Overlap (a b : Extent) : Type 0 where
  sized : 0 < a.size
  before : a.start < b.start + b.size
  past : b.start < a.start + a.size

overlap_is : (a b : Extent) → overlap a b ≡ true → Overlap a b
overlap_is a b met =
    let one_end = and_parts (not (a.size == 0) && not (b.size == 0) && nat_lt a.start (b.start + b.size))
    (nat_lt b.start (a.start + a.size)) met in
    let other_end = and_parts (not (a.size == 0) && not (b.size == 0)) (nat_lt a.start (b.start + b.size)) one_end.0 in
    let sized = and_parts (not (a.size == 0)) (not (b.size == 0)) other_end.0 in
    record {
      sized = no_zero a.size sized.0;
      before = ltb-true a.start (b.start + b.size) other_end.1;
      past = ltb-true b.start (a.start + a.size) one_end.1;
    }

may : (h : Hull) (e : Extent) → h.low < e.start + e.size → e.start < h.end → may_overlap h e ≡ true
may h e before past =
    ap (λ b. b && nat_lt e.start h.end) (lt-ltb h.low (e.start + e.size) before) ∙ lt-ltb e.start h.end past

under_from : (top c : ℕ) → Under top c → top ≤ c
under_from top _ here = omega arith
under_from top _ (below p c u low high) = let more : top ≤ p = under_from top p u in omega (arith, more, low)

-- a node is around all below it
under_within : (extents : List Extent) (nodes : List Hull) (firsts : List (Option ℕ)) (top c : ℕ) (d : Hull)
    → Kept extents nodes firsts → 0 < top → Under top c → c < length nodes
    → Within (get_or nodes c d) (get_or nodes top d)
under_within extents nodes firsts top _ d kept positive here within = record { low = omega arith; end = omega arith }
under_within extents nodes firsts top _ d kept positive (below p c u low high) within =
    let from : top ≤ p = under_from top p u in
    let above : Within (get_or nodes p d) (get_or nodes top d) =
    under_within extents nodes firsts top p d kept positive u (omega (arith, low, within, from, positive)) in
    let next : Within (get_or nodes c d) (get_or nodes p d) =
    kept.nested p c d (omega (arith, from, positive)) low high within in
    record { low = omega (arith, above.low, next.low); end = omega (arith, above.end, next.end) }

-- where the range around them does not overlap it, none does
pub missed_all : (extents : List Extent) (nodes : List Hull) (firsts : List (Option ℕ)) (node : ℕ)
    (d : Hull) (e : Extent)
    → length nodes ≡ 2 * length extents → 0 < node → Kept extents nodes firsts
    → may_overlap (get_or nodes node d) e ≡ false → Missed extents e node firsts
missed_all extents nodes firsts node d e lengths positive kept apart j x within under none =
    false_from_ne_true (overlap (get_or extents j x) e) (λ is.
    let met : Overlap (get_or extents j x) e = overlap_is (get_or extents j x) e is in
    let leaf : Around (get_or nodes (length extents + j) d) (get_or extents j x) =
    kept.leaves j d x within none met.sized in
    let top : Within (get_or nodes (length extents + j) d) (get_or nodes node d) =
    under_within extents nodes firsts node (length extents + j) d kept positive under
    (omega (arith, lengths, within)) in
    absurd (cc (sym apart ∙ may (get_or nodes node d) e (omega (arith, top.low, leaf.low, met.before))
    (omega (arith, top.end, leaf.end, met.past)))))

-- below a leaf is that leaf alone
leaf_alone : (top c count : ℕ) → Under top c → 0 < count → count ≤ top → c < 2 * count → c ≡ top
leaf_alone top _ count here positive leaf within = refl
leaf_alone top _ count (below p c u low high) positive leaf within =
    let from : top ≤ p = under_from top p u in absurd (omega (arith, from, low, leaf, within, positive))

pub missed_leaf : (extents : List Extent) (firsts : List (Option ℕ)) (node leaf : ℕ) (e : Extent)
    → leaf < length extents → node ≡ length extents + leaf
    → ((d : Extent) → get_or firsts leaf None ≡ None → overlap (get_or extents leaf d) e ≡ false)
    → Missed extents e node firsts
missed_leaf extents firsts node leaf e within is here_missed j x below_length under none =
    let alone : length extents + j ≡ node =
    leaf_alone node (length extents + j) (length extents) under (omega (arith, within)) (omega (arith, is))
    (omega (arith, below_length)) in
    let same_leaf : leaf ≡ j = omega (arith, alone, is) in
    subst (λ k. get_or firsts k None ≡ None → overlap (get_or extents k x) e ≡ false) same_leaf (here_missed x) none

-- what is below a node is below one of its children
data Child (top c : ℕ) : Type 0 where
  itself : c ≡ top → Child top c
  left : Under (2 * top) c → Child top c
  right : Under (2 * top + 1) c → Child top c

child_of : (top c : ℕ) → Under top c → Child top c
child_of top _ here = itself refl
child_of top _ (below p c u low high) = elim (child_of top p u) [
  | itself is ↦ elim (cases_eq c (2 * top)) [
    | inl even ↦ left (subst (λ k. Under (2 * top) k) (sym even) here)
    | inr odd ↦
        let last : c ≡ 2 * top + 1 = omega (arith, is, low, high, odd) in
        right (subst (λ k. Under (2 * top + 1) k) (sym last) here)
  ]
  | left v ↦ left (below p c v low high)
  | right v ↦ right (below p c v low high)
]

unmarked : (met : Bool) (by : ℕ) (old new : Option ℕ) → MarkedAt met by old new → new ≡ None → old ≡ None
unmarked met by _ _ (same o) none = none
unmarked met by _ _ (found is) none = refl

joined : (met : Bool) (by : ℕ) (a b c : Option ℕ) → MarkedAt met by a b → MarkedAt met by b c → MarkedAt met by a c
joined met by _ _ c (same o) next = next
joined met by _ _ _ (found is) (same _) = found is

pub marked_join : (extents : List Extent) (e : Extent) (by : ℕ) (a b c : List (Option ℕ))
    → Marked extents e by a b → Marked extents e by b c → Marked extents e by a c
marked_join extents e by a b c one two j x within =
    joined (overlap (get_or extents j x) e) by (get_or a j None) (get_or b j None) (get_or c j None)
    (one j x within) (two j x within)

pub missed_join : (extents : List Extent) (e : Extent) (by node : ℕ) (b c : List (Option ℕ))
    → node < length extents → Missed extents e (2 * node) b → Marked extents e by b c
    → Missed extents e (2 * node + 1) c → Missed extents e node c
missed_join extents e by node b c inner one marked two j x within under none =
    elim (child_of node (length extents + j) under) [
      | itself is ↦ absurd (omega (arith, inner, is))
      | left v ↦
          one j x within v
          (unmarked (overlap (get_or extents j x) e) by (get_or b j None) (get_or c j None) (marked j x within) none)
      | right v ↦ two j x within v none
    ]

abbrev Nested : List Hull → Type 0
Nested nodes = (p c : ℕ) (d : Hull) → 0 < p → 2 * p ≤ c → c ≤ 2 * p + 1 → c < length nodes
    → Within (get_or nodes c d) (get_or nodes p d)

within_same : (a b c d : Hull) → a ≡ b → c ≡ d → Within b d → Within a c
within_same a b c d one two w = record {
  low = omega (arith, ap (λ (q : Hull). q.low) one, ap (λ (q : Hull). q.low) two, w.low);
  end = omega (arith, ap (λ (q : Hull). q.end) one, ap (λ (q : Hull). q.end) two, w.end);
}

-- a node may shrink, as long as it is around its children
nested_set : (nodes : List Hull) (i : ℕ) (h d : Hull) → i < length nodes → Nested nodes → Within h (get_or nodes i d)
    → ((c : ℕ) (x : Hull) → 2 * i ≤ c → c ≤ 2 * i + 1 → c < length nodes → Within (get_or nodes c x) h)
    → Nested (set nodes i h)
nested_set nodes i h d inside nested shrinks around_them p c x positive low high within =
    let within_old : c < length nodes = omega (arith, within, length-set nodes i h) in
    elim (cases_eq c i) [
      | inl is ↦
          let other : p ≢ i = omega (arith, is, positive, low) in
          within_same (get_or (set nodes i h) c x) h (get_or (set nodes i h) p x) (get_or nodes p x)
          (ap (λ k. get_or (set nodes i h) k x) is ∙ get_or-set_same nodes i h x inside)
          (get_or-set_other nodes i p h x other)
          (let old : Within (get_or nodes c x) (get_or nodes p x) = nested p c x positive low high within_old in
          let base : get_or nodes c x ≡ get_or nodes i d =
          ap (λ k. get_or nodes k x) is ∙ get_or_default nodes i x d inside in
          record {
            low = omega (arith, ap (λ (q : Hull). q.low) base, old.low, shrinks.low);
            end = omega (arith, ap (λ (q : Hull). q.end) base, old.end, shrinks.end);
          })
      | inr other ↦ elim (cases_eq p i) [
        | inl top ↦
            within_same (get_or (set nodes i h) c x) (get_or nodes c x) (get_or (set nodes i h) p x) h
            (get_or-set_other nodes i c h x other)
            (ap (λ k. get_or (set nodes i h) k x) top ∙ get_or-set_same nodes i h x inside)
            (around_them c x (omega (arith, low, top)) (omega (arith, high, top)) within_old)
        | inr elsewhere ↦
            within_same (get_or (set nodes i h) c x) (get_or nodes c x) (get_or (set nodes i h) p x) (get_or nodes p x)
            (get_or-set_other nodes i c h x other) (get_or-set_other nodes i p h x elsewhere)
            (nested p c x positive low high within_old)
      ]
    ]

-- a leaf with a mark has no range
pub kept_marked : (extents : List Extent) (nodes : List Hull) (firsts : List (Option ℕ)) (leaf by : ℕ) (h d : Hull)
    → length nodes ≡ 2 * length extents → length firsts ≡ length extents → leaf < length extents
    → Kept extents nodes firsts → h ≡ record { low = (get_or nodes (length extents + leaf) d).low; end = 0 }
    → Kept extents (set nodes (length extents + leaf) h) (set firsts leaf (Some by))
kept_marked extents nodes firsts leaf by h d lengths marks inside kept is = record {
  nested = nested_set nodes node h d (omega (arith, lengths, inside)) kept.nested
      (record { low = omega (arith, ap (λ (q : Hull). q.low) is); end = omega (arith, ap (λ (q : Hull). q.end) is) })
      (λ c x low high within. absurd (omega (arith, low, within, lengths, inside)));
  leaves = leaves;
} where
  node : ℕ
  node = length extents + leaf

  leaves : (j : ℕ) (x : Hull) (e : Extent) → j < length extents → get_or (set firsts leaf (Some by)) j None ≡ None
      → 0 < (get_or extents j e).size
      → Around (get_or (set nodes (length extents + leaf) h) (length extents + j) x) (get_or extents j e)
  leaves j x e within none sized = elim (cases_eq j leaf) [
    | inl here_is ↦
        let marked : get_or (set firsts leaf (Some by)) j None ≡ Some by =
        ap (λ k. get_or (set firsts leaf (Some by)) k None) here_is
        ∙ get_or-set_same firsts leaf (Some by) None (omega (arith, marks, inside)) in
        absurd (cc (sym marked ∙ none))
    | inr other ↦
        let elsewhere : length extents + j ≢ length extents + leaf = omega (arith, other) in
        subst (λ q. Around q (get_or extents j e))
        (sym (get_or-set_other nodes (length extents + leaf) (length extents + j) h x elsewhere))
        (kept.leaves j x e within (sym (get_or-set_other firsts leaf j (Some by) None other) ∙ none) sized)
  ]

pub marked_leaf : (extents : List Extent) (firsts : List (Option ℕ)) (leaf by : ℕ) (e x : Extent)
    → length firsts ≡ length extents → leaf < length extents → get_or firsts leaf None ≡ None
    → overlap (get_or extents leaf x) e ≡ true → Marked extents e by firsts (set firsts leaf (Some by))
marked_leaf extents firsts leaf by e x marks inside none met j d within = elim (cases_eq j leaf) [
  | inl is ↦
      subst (λ k. MarkedAt (overlap (get_or extents k d) e) by (get_or firsts k None)
      (get_or (set firsts leaf (Some by)) k None)) (sym is)
      (subst (λ o. MarkedAt (overlap (get_or extents leaf d) e) by o (get_or (set firsts leaf (Some by)) leaf None))
      (sym none)
      (subst (λ o. MarkedAt (overlap (get_or extents leaf d) e) by None o)
      (sym (get_or-set_same firsts leaf (Some by) None (omega (arith, marks, inside))))
      (found (ap (λ q. overlap q e) (get_or_default extents leaf d x inside) ∙ met))))
  | inr other ↦
      subst (λ o. MarkedAt (overlap (get_or extents j d) e) by (get_or firsts j None) o)
      (sym (get_or-set_other firsts leaf j (Some by) None other)) (same (get_or firsts j None))
]

-- a node shrinks to what its children are around
pub kept_joined : (extents : List Extent) (nodes : List Hull) (firsts : List (Option ℕ)) (node : ℕ) (h d : Hull)
    → length nodes ≡ 2 * length extents → 0 < node → node < length extents → Kept extents nodes firsts
    → h ≡ around (get_or nodes (2 * node) d) (get_or nodes (2 * node + 1) d)
    → Kept extents (set nodes node h) firsts
kept_joined extents nodes firsts node h d lengths positive inside kept is = record {
  nested = nested_set nodes node h h (omega (arith, lengths, inside)) kept.nested
      (record {
        low = omega (arith, low_is, left.low, right.low, low_a, low_b);
        end = omega (arith, end_is, left.end, right.end, end_a, end_b);
      })
      outer;
  leaves = λ j x e within none sized.
      let elsewhere : length extents + j ≢ node = omega (arith, inside) in
      subst (λ q. Around q (get_or extents j e)) (sym (get_or-set_other nodes node (length extents + j) h x elsewhere))
      (kept.leaves j x e within none sized);
} where
  a : Hull
  a = get_or nodes (2 * node) d

  b : Hull
  b = get_or nodes (2 * node + 1) d

  even : (x : Hull) → get_or nodes (2 * node) x ≡ a
  even x = get_or_default nodes (2 * node) x d (omega (arith, lengths, inside))

  odd : (x : Hull) → get_or nodes (2 * node + 1) x ≡ b
  odd x = get_or_default nodes (2 * node + 1) x d (omega (arith, lengths, inside))

  left : Within (get_or nodes (2 * node) h) (get_or nodes node h)
  left = kept.nested node (2 * node) h positive (omega arith) (omega arith) (omega (arith, lengths, inside))

  right : Within (get_or nodes (2 * node + 1) h) (get_or nodes node h)
  right = kept.nested node (2 * node + 1) h positive (omega arith) (omega arith) (omega (arith, lengths, inside))

  low_a : (get_or nodes (2 * node) h).low ≡ a.low
  low_a = ap (λ (q : Hull). q.low) (even h)

  low_b : (get_or nodes (2 * node + 1) h).low ≡ b.low
  low_b = ap (λ (q : Hull). q.low) (odd h)

  end_a : (get_or nodes (2 * node) h).end ≡ a.end
  end_a = ap (λ (q : Hull). q.end) (even h)

  end_b : (get_or nodes (2 * node + 1) h).end ≡ b.end
  end_b = ap (λ (q : Hull). q.end) (odd h)

  low_is : h.low ≡ min a.low b.low
  low_is = ap (λ (q : Hull). q.low) is

  end_is : h.end ≡ max a.end b.end
  end_is = ap (λ (q : Hull). q.end) is

  outer : (c : ℕ) (x : Hull) → 2 * node ≤ c → c ≤ 2 * node + 1 → c < length nodes → Within (get_or nodes c x) h
  outer c x low high within = elim (cases_eq c (2 * node)) [
    | inl is_even ↦
        let at : get_or nodes c x ≡ a = ap (λ k. get_or nodes k x) is_even ∙ even x in
        record {
          low = omega (arith, low_is, ap (λ (q : Hull). q.low) at);
          end = omega (arith, end_is, ap (λ (q : Hull). q.end) at);
        }
    | inr is_odd ↦
        let last : c ≡ 2 * node + 1 = omega (arith, low, high, is_odd) in
        let at : get_or nodes c x ≡ b = ap (λ k. get_or nodes k x) last ∙ odd x in
        record {
          low = omega (arith, low_is, ap (λ (q : Hull). q.low) at);
          end = omega (arith, end_is, ap (λ (q : Hull). q.end) at);
        }
  ]
