-- Marks on the bytes of fields, as a window of relocations moves on.
use Rattle.elfobj.proofs.Common.{AreApart, Bool, IsNonDecreasingBy, IsTaken, IsWindow, List, Relocation, Span, [], ap}
use Rattle.elfobj.proofs.Common.{arith, both_ways, cases_Bool, cases_lt, drop, false, false_from_ne_true, field_end}
use Rattle.elfobj.proofs.Common.{get_or, get_or-drop, get_or-take, get_or_default, inl, inr, length, length-drop}
use Rattle.elfobj.proofs.Common.{length-take, list_any, list_any_none, lt-ltb, ltb-true, map, max, meets, min, or_from}
use Rattle.elfobj.proofs.Common.{pos, refl, relocations_in, share_bytes, slice_range, subst, suc, sym, take, take_all}
use Rattle.elfobj.proofs.Common.{true, ℕ, ⊎_elim, ◌+◌, ◌-◌, ◌<◌, ◌∙◌, ◌∷◌, ◌≡◌, ◌≤◌, ◌⊎◌}
use Rattle.elfobj_file.specs.declared.relocation.RelocationKind.TheVariants as kind
use Rattle.elfobj.proofs.RelocationLimits.{all_apart}

abbrev pub no_relocation : Relocation
no_relocation = record { offset = 0; symbol = record { 0 = 0 }; kind = kind.None; addend = pos 0 }

abbrev pub no_span : Span
no_span = record { start = 0; end = 0 }

-- a byte of two fields
covered_meet : (q x : Relocation) (b : ℕ) → q.offset ≤ b → b < field_end q → x.offset ≤ b → b < field_end x
    → meets q x ≡ true
covered_meet q x b h k l m = lt-ltb (max q.offset x.offset) (min (field_end q) (field_end x)) (omega arith)

-- a byte lies in a field, or before or after it
inside_or : (r : Relocation) (b : ℕ) → ((r.offset ≤ b) × (b < field_end r)) ⊎ ((b < r.offset) ⊎ (field_end r ≤ b))
inside_or r b = ⊎_elim
    (λ l. inr (inl l))
    (λ l. ⊎_elim (λ m. inl (l, m)) (λ m. inr (inr m)) (cases_lt b (field_end r)))
    (cases_lt b r.offset)

not_inside : (r : Relocation) (b : ℕ) → r.offset ≤ b → b < field_end r → (b < r.offset) ⊎ (field_end r ≤ b) → ⊥
not_inside r b h k o = ⊎_elim (λ l. omega arith) (λ l. omega arith) o

apart_byte : (q x : Relocation) (b : ℕ) → meets q x ≡ false → x.offset ≤ b → b < field_end x
    → (b < q.offset) ⊎ (field_end q ≤ b)
apart_byte q x b e h k = ⊎_elim
    (λ i. absurd (both_ways _ e (covered_meet q x b i.0 i.1 h k)))
    (λ o. o)
    (inside_or q b)

-- one relocation less at the window's start
pub window_left : (all : List Relocation) (from until : ℕ) (d : Relocation) (marks marks' : List Bool) → from < until
    → length marks' ≡ length marks
    → ((b : ℕ) → (get_or all from d).offset ≤ b → b < field_end (get_or all from d) → get_or marks' b false ≡ false)
    → ((b : ℕ) → (b < (get_or all from d).offset) ⊎ (field_end (get_or all from d) ≤ b)
    → get_or marks' b false ≡ get_or marks b false)
    → IsWindow all from until marks → IsWindow all (from + 1) until marks'
window_left all from until d marks marks' l e inside outside w = record {
  order = omega arith;
  within = w.within;
  fields = λ p x a c. subst (λ n. field_end (get_or all p x) ≤ n) (sym e) (w.fields p x (omega arith) c);
  apart = λ p q x a b c. w.apart p q x (omega arith) b c;
  marked = λ p b a c t.
      outside b (apart_byte (get_or all from d) (get_or all p d) b (w.apart from p d (omega arith) (omega arith) c)
      (t.low d) (t.high d)) ∙ w.marked p b (omega arith) c t;
  found = λ b m. ⊎_elim
      (λ i. absurd (both_ways _ (inside b i.0 i.1) m))
      (λ o.
      let r = w.found b (sym (outside b o) ∙ m) in
      ⊎_elim
      (λ k. (r.0, omega arith, r.2, r.3))
      (λ k. let same : r.0 ≡ from = omega (arith, r.1) in
      let t : IsTaken all from b = subst (λ p. IsTaken all p b) same r.3 in
      absurd (not_inside (get_or all from d) b (t.low d) (t.high d) o))
      (cases_lt from r.0))
      (inside_or (get_or all from d) b);
}

-- a field without a marked byte meets none of the window
met_byte : (q x : Relocation) → meets q x ≡ true
    → (b : ℕ) × (q.offset ≤ b) × (b < field_end q) × (x.offset ≤ b) × (b < field_end x)
met_byte q x h = let l = ltb-true (max q.offset x.offset) (min (field_end q) (field_end x)) h in
    (max q.offset x.offset, omega arith, omega arith, omega arith, omega arith)

taken_by : (all : List Relocation) (p b : ℕ) (d : Relocation) → p < length all → (get_or all p d).offset ≤ b
    → b < field_end (get_or all p d) → IsTaken all p b
taken_by all p b d l h k = record {
  low = λ x. subst (λ r. r.offset ≤ b) (get_or_default all p d x l) h;
  high = λ x. subst (λ r. b < field_end r) (get_or_default all p d x l) k;
}

new_apart : (all : List Relocation) (from at p : ℕ) (x d : Relocation) (marks : List Bool) → at < length all
    → ((b : ℕ) → (get_or all at d).offset ≤ b → b < field_end (get_or all at d) → get_or marks b false ≡ false)
    → IsWindow all from at marks → from ≤ p → p < at → meets (get_or all p x) (get_or all at d) ≡ false
new_apart all from at p x d marks l free w a c = false_from_ne_true _ (λ e.
    let r = met_byte (get_or all p x) (get_or all at d) e in
    both_ways _ (free r.0 r.3 r.4) (w.marked p r.0 a c (taken_by all p r.0 x (omega arith) r.1 r.2)))

-- one more relocation at the window's end
pub window_more : (all : List Relocation) (from at : ℕ) (d : Relocation) (marks marks' : List Bool) → at < length all
    → field_end (get_or all at d) ≤ length marks → length marks' ≡ length marks
    → ((b : ℕ) → (get_or all at d).offset ≤ b → b < field_end (get_or all at d) → get_or marks b false ≡ false)
    → ((b : ℕ) → (get_or all at d).offset ≤ b → b < field_end (get_or all at d) → get_or marks' b false ≡ true)
    → ((b : ℕ) → (b < (get_or all at d).offset) ⊎ (field_end (get_or all at d) ≤ b)
    → get_or marks' b false ≡ get_or marks b false)
    → IsWindow all from at marks → IsWindow all from (at + 1) marks'
window_more all from at d marks marks' l f e free inside outside w = record {
  order = let o = w.order in omega arith;
  within = omega arith;
  fields = λ p x a c. subst (λ n. field_end (get_or all p x) ≤ n) (sym e) (⊎_elim
      (λ k. w.fields p x a k)
      (λ k. let same : p ≡ at = omega arith in
      subst (λ i. field_end (get_or all i x) ≤ length marks) (sym same)
      (subst (λ r. field_end r ≤ length marks) (get_or_default all at d x l) f))
      (cases_lt p at));
  apart = λ p q x a b c. ⊎_elim
      (λ k. w.apart p q x a b k)
      (λ k. let same : q ≡ at = omega arith in
      subst (λ i. meets (get_or all p x) (get_or all i x) ≡ false) (sym same)
      (subst (λ r. meets (get_or all p x) r ≡ false) (get_or_default all at d x l)
      (new_apart all from at p x d marks l free w a (omega arith))))
      (cases_lt q at);
  marked = λ p b a c t. ⊎_elim
      (λ i. inside b i.0 i.1)
      (λ o. outside b o ∙ ⊎_elim
      (λ k. w.marked p b a k t)
      (λ k. let same : p ≡ at = omega arith in
      let u : IsTaken all at b = subst (λ i. IsTaken all i b) same t in
      absurd (not_inside (get_or all at d) b (u.low d) (u.high d) o))
      (cases_lt p at))
      (inside_or (get_or all at d) b);
  found = λ b m. ⊎_elim
      (λ i. (at, w.order, omega arith, taken_by all at b d l i.0 i.1))
      (λ o. let r = w.found b (sym (outside b o) ∙ m) in (r.0, r.1, omega (arith, r.2), r.3))
      (inside_or (get_or all at d) b);
}

-- a stretch of relocations
pub stretch_at : (all : List Relocation) (from end i : ℕ) (d : Relocation) → from + i < end
    → get_or (slice_range all from end) i d ≡ get_or all (from + i) d
stretch_at all from end i d l = get_or-take (end - from) (drop from all) i d (omega arith) ∙ get_or-drop from all i d

pub stretch_length : (all : List Relocation) (from end : ℕ) → end ≤ length all
    → length (slice_range all from end) ≡ end - from
stretch_length all from end l =
    let a = length-take (end - from) (drop from all) in
    let b = length-drop from all in
    omega arith

-- two that meet
share_at : (all : List Relocation) (from end p q : ℕ) (d : Relocation) → from ≤ p → p < q → q < end → end ≤ length all
    → meets (get_or all p d) (get_or all q d) ≡ true → share_bytes (slice_range all from end) ≡ true
share_at all from end p q d a b c l e = ⊎_elim
    (λ h. h)
    (λ h.
    let n = stretch_length all from end l in
    let f : from + (p - from) ≡ p = omega arith in
    let g : from + (q - from) ≡ q = omega arith in
    let m = all_apart (slice_range all from end) h (p - from) (q - from) d (omega arith) (omega arith) in
    let i = stretch_at all from end (p - from) d (omega arith) ∙ ap (λ k. get_or all k d) f in
    let j = stretch_at all from end (q - from) d (omega arith) ∙ ap (λ k. get_or all k d) g in
    absurd (both_ways _ (ap (λ r. meets (get_or all p d) r) (sym j)
    ∙ ap (λ r. meets r (get_or (slice_range all from end) (q - from) d)) (sym i) ∙ m) e))
    (cases_Bool (share_bytes (slice_range all from end)))

-- a byte that is marked already
pub window_shared : (all : List Relocation) (from at end b : ℕ) (d : Relocation) (marks : List Bool) → at < end
    → end ≤ length all → (get_or all at d).offset ≤ b → b < field_end (get_or all at d)
    → get_or marks b false ≡ true → IsWindow all from at marks → share_bytes (slice_range all from end) ≡ true
window_shared all from at end b d marks l m h k e w =
    let r = w.found b e in
    share_at all from end r.0 at d r.1 r.2 l m
    (covered_meet (get_or all r.0 d) (get_or all at d) b (r.3.low d) (r.3.high d) h k)

-- none of a stretch of the window meet
none_share : (rs : List Relocation) → AreApart rs → share_bytes rs ≡ false
unfolding share_bytes
none_share [] h = refl
none_share (r ∷ rs) h =
    or_from _ _ (list_any_none (meets r) rs (λ k d l. h 0 (suc k) d (omega arith) (omega arith)))
    (none_share rs (λ i j d l m. h (suc i) (suc j) d (omega arith) (omega arith)))

pub window_apart : (all : List Relocation) (from until start end : ℕ) (marks : List Bool) → from ≤ start → end ≤ until
    → IsWindow all from until marks → share_bytes (slice_range all start end) ≡ false
window_apart all from until start end marks a b w = none_share (slice_range all start end) (λ i j d l m.
    let n = stretch_length all start end (omega (arith, w.within)) in
    ap (λ r. meets r (get_or (slice_range all start end) j d)) (stretch_at all start end i d (omega arith))
    ∙ ap (λ r. meets (get_or all (start + i) d) r) (stretch_at all start end j d (omega arith))
    ∙ w.apart (start + i) (start + j) d (omega arith) (omega arith) (omega arith))

-- the window, moved to a start
window_moved : (all : List Relocation) (u v : ℕ) (marks : List Bool) → v ≤ length all → IsWindow all u u marks
    → IsWindow all v v marks
window_moved all u v marks l w = record {
  order = omega arith;
  within = l;
  fields = λ p d a b. absurd (omega arith);
  apart = λ p q d a b c. absurd (omega arith);
  marked = λ p b a c t. absurd (omega arith);
  found = λ b m. let r = w.found b m in absurd (omega (arith, r.1, r.2));
}

pub window_from : (all : List Relocation) (start until m u : ℕ) (marks : List Bool) → m ≡ min start until
    → u ≡ max until start → start ≤ length all → IsWindow all m until marks → IsWindow all start u marks
window_from all start until m u marks e f l w = ⊎_elim
    (λ k.
    let a : m ≡ until = omega arith in
    let b : u ≡ start = omega arith in
    subst (λ x. IsWindow all start x marks) (sym b)
    (window_moved all until start marks l (subst (λ x. IsWindow all x until marks) a w)))
    (λ k.
    let a : m ≡ start = omega arith in
    let b : u ≡ until = omega arith in
    subst (λ x. IsWindow all start x marks) (sym b) (subst (λ x. IsWindow all x until marks) a w))
    (cases_lt until start)

pub window_none : (all : List Relocation) (marks : List Bool) → ((b : ℕ) → get_or marks b false ≡ false)
    → IsWindow all 0 0 marks
window_none all marks h = record {
  order = omega arith;
  within = omega arith;
  fields = λ p d a b. absurd (omega arith);
  apart = λ p q d a b c. absurd (omega arith);
  marked = λ p b a c t. absurd (omega arith);
  found = λ b m. absurd (both_ways _ (h b) m);
}

pub starts_up : (spans : List Span) (i j : ℕ) (d : Span) → IsNonDecreasingBy (λ (s : Span). s.start) spans
    → i < length spans → i ≤ j → j < length spans → (get_or spans i no_span).start ≤ (get_or spans j d).start
starts_up spans i j d up l a m =
    subst (λ (s : Span). s.start ≤ (get_or spans j d).start) (get_or_default spans i d no_span l) (up i j d a m)

pub none_met : (all : List Relocation) (spans : List Span) (i : ℕ) → length spans ≤ i
    → list_any share_bytes (map (relocations_in all) (take i spans)) ≡ false
    → false ≡ list_any share_bytes (map (relocations_in all) spans)
none_met all spans i l h = sym
    (ap (λ xs. list_any share_bytes (map (relocations_in all) xs)) (sym (take_all i spans l)) ∙ h)
