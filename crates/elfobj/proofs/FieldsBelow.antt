-- Fields of relocations that are not refused end within the largest section that has any, in whatever order their
-- tables come.
use Rattle.elfobj.proofs.Common.{All, AreBelow, AreRelocated, AreTablesOf, Bool, Err, FieldBounds, IfOk, IsPermutation}
use Rattle.elfobj.proofs.Common.{IsTableOf, List, None, Ok, Relocation, RelocationSection, RelocationType, Result, Span}
use Rattle.elfobj.proofs.Common.{[], ap, arith, both_ways, cases_lt, entry_refusals, false, false_from_ne_true}
use Rattle.elfobj.proofs.Common.{field_end, find, get_or, get_or-map, holds, inl, inr, length, length-map, list_any}
use Rattle.elfobj.proofs.Common.{list_any_at, map, relocation_entries_below, relocation_of, relocations_at}
use Rattle.elfobj.proofs.Common.{relocations_in, share_bytes, subst, sym, ℕ, ◌+◌, ◌-◌, ◌<◌, ◌∙◌, ◌≡◌, ◌≤◌}
use Rattle.std.proofs.lemmas.List.Sorted.{All-permutation, IsPermutation-map, list_any-IsPermutation}
use Rattle.elfobj_file.specs.Tables.{has_field_outside, has_wrong_bounds, is_outside, linked_sections}
use Rattle.elfobj.specs.declared.relocation_run.SectionTable.{SectionTable}
use Rattle.elfobj_file.specs.declared.section.Section.{Section}
use Rattle.elfobj.proofs.FieldMarks.{stretch_at, stretch_length}
use Rattle.elfobj.proofs.Limits.{cond_none}
use Rattle.elfobj.proofs.RelocationLimits.{field_inside}
use Rattle.elfobj.proofs.RelocationReads.{found_mapped}
use Rattle.elfobj.proofs.Runs.{no_table}

-- what holds of spans in a list, when both are read through references and the spans are sorted
pub spans_sorted : (P : List Relocation → Span → Type 0) (all all' : List Relocation) (ss ss' ts ts' : List Span)
    → all' ≡ all → ss' ≡ ss → ts' ≡ ts → IsPermutation ss' ts → All (P all) ss → All (P all') ts'
spans_sorted P all all' ss ss' ts ts' e f g p h =
    subst (λ xs. All (P xs) ts') (sym e)
    (subst (All (P all)) (sym g) (All-permutation (P all) ss ts (subst (λ xs. IsPermutation xs ts) f p) h))

any_moved : (all all' : List Relocation) (ss ss' ts ts' : List Span) → all' ≡ all → ss' ≡ ss → ts' ≡ ts
    → IsPermutation ss' ts → list_any share_bytes (map (relocations_in all') ts') ≡ list_any share_bytes
    (map (relocations_in all) ss)
any_moved all all' ss ss' ts ts' e f g p =
    ap (λ xs. list_any share_bytes (map (relocations_in xs) ts')) e
    ∙ ap (λ xs. list_any share_bytes (map (relocations_in all) xs)) g
    ∙ sym (list_any-IsPermutation share_bytes _ _
    (IsPermutation-map (relocations_in all) ss ts (subst (λ xs. IsPermutation xs ts) f p)))

pub told_sorted : {E : Type 0} (all all' : List Relocation) (ss ss' ts ts' : List Span) (r : Result Bool E) → all' ≡ all
    → ss' ≡ ss → ts' ≡ ts → IsPermutation ss' ts
    → IfOk r (λ b. b ≡ list_any share_bytes (map (relocations_in all') ts'))
    → IfOk r (λ b. b ≡ list_any share_bytes (map (relocations_in all) ss))
told_sorted all all' ss ss' ts ts' (Ok b) e f g p h = h ∙ any_moved all all' ss ss' ts ts' e f g p
told_sorted all all' ss ss' ts ts' (Err x) e f g p h = tt

-- no field lies outside its section
none_at : {X : Type 0} (p : X → Bool) (xs : List X) (i : ℕ) (d : X) → i < length xs → list_any p xs ≡ false
    → p (get_or xs i d) ≡ false
none_at p xs i d l h = false_from_ne_true _ (λ e. both_ways _ h (list_any_at p xs i d l e))

bounds_hold : (bytes : List ℕ) → find (holds bytes) entry_refusals ≡ None → holds bytes FieldBounds ≡ false
bounds_hold bytes h =
    let a = cond_none (holds bytes RelocationSection) RelocationSection _ h in
    let b = cond_none (holds bytes RelocationType) RelocationType _ a.1 in
    (cond_none (holds bytes FieldBounds) FieldBounds _ b.1).0

bounds_in : (bytes : List ℕ) → holds bytes FieldBounds ≡ false
    → list_any (has_field_outside bytes) (linked_sections bytes) ≡ false
unfolding holds has_wrong_bounds
bounds_in bytes h = h

field_below : (bytes : List ℕ) (s : Section) (i : ℕ) (d : Relocation) → has_field_outside bytes s ≡ false
    → i < length (relocations_at bytes s.number.0) → field_end (get_or (relocations_at bytes s.number.0) i d) ≤ s.size
field_below bytes s i d h l = field_inside s.kind s.size _
    (none_at (is_outside s.kind s.size) (relocations_at bytes s.number.0) i d l h)

-- a table that has an entry isn't empty
none_counted : (bytes : List ℕ) (t : SectionTable) → IsTableOf bytes t → t.count ≡ 0
    → length (relocations_at bytes t.section.number.0) ≡ 0
none_counted bytes t h e =
    ap (λ es. length (map relocation_of es)) (sym h.entries)
    ∙ ap (λ n. length (map relocation_of (relocation_entries_below bytes t.start n))) e

some_counted : (bytes : List ℕ) (t : SectionTable) → IsTableOf bytes t
    → 0 < length (relocations_at bytes t.section.number.0) → 0 < t.count
some_counted bytes t h l = elim (cases_lt 0 t.count) [
  | inl a ↦ a
  | inr a ↦ let e = none_counted bytes t h (omega arith) in absurd (omega arith)
]

span_below : (bytes : List ℕ) (all : List Relocation) (t : SectionTable) (s : Span) (n : ℕ) → IsTableOf bytes t
    → (0 < t.count → t.section.size ≤ n) → has_field_outside bytes t.section ≡ false → s.end ≤ length all
    → relocations_in all s ≡ relocations_at bytes t.section.number.0 → AreBelow all s.start s.end n
span_below bytes all t s n h small o w e = λ p d a b.
    let rs = relocations_at bytes t.section.number.0 in
    let long = stretch_length all s.start s.end w in
    let same : length (relocations_in all s) ≡ length rs = ap length e in
    let l : p - s.start < length rs = omega arith in
    let f = field_below bytes t.section (p - s.start) d o l in
    let z = small (some_counted bytes t h (omega arith)) in
    let g : s.start + (p - s.start) ≡ p = omega arith in
    let r : get_or rs (p - s.start) d ≡ get_or all p d = ap (λ xs. get_or xs (p - s.start) d) (sym e)
    ∙ stretch_at all s.start s.end (p - s.start) d (omega arith) ∙ ap (λ k. get_or all k d) g in
    let k : field_end (get_or all p d) ≤ t.section.size = subst (λ x. field_end x ≤ t.section.size) r f in
    omega arith

mapped_none : (f : SectionTable → Section) (p : Section → Bool) (ts : List SectionTable) (k : ℕ) (d : SectionTable)
    → k < length ts → list_any p (map f ts) ≡ false → p (f (get_or ts k d)) ≡ false
mapped_none f p ts k d l h = false_from_ne_true _ (λ e. both_ways _ h (found_mapped f p ts k d l e))

-- lists that are the same when read in two ways
read_same : (all : List Relocation) (g : Section → List Relocation) (f : SectionTable → Section) (spans : List Span)
    (ts : List SectionTable) (k : ℕ) (d : Span) (e : SectionTable) → map (relocations_in all) spans ≡ map g (map f ts)
    → k < length spans → k < length ts
    → relocations_in all (get_or spans k d) ≡ g (f (get_or ts k e))
read_same all g f spans ts k d e h l m =
    sym (get_or-map (relocations_in all) spans k d [] l)
    ∙ ap (λ xs. get_or xs k []) h
    ∙ get_or-map g (map f ts) k (f e) [] (let n = length-map ts f in omega arith)
    ∙ ap g (get_or-map f ts k e (f e) m)

pub fields_below : (bytes : List ℕ) (ss : List Section) (ts ts' : List SectionTable) (all : List Relocation)
    (spans : List Span) (n : ℕ) → find (holds bytes) entry_refusals ≡ None → ss ≡ linked_sections bytes
    → AreTablesOf bytes ss ts → ts' ≡ ts
    → All (λ (t : SectionTable). 0 < t.count → t.section.size ≤ n) ts'
    → AreRelocated (map (λ (s : Section). relocations_at bytes s.number.0) ss) all spans
    → All (λ (s : Span). AreBelow all s.start s.end n) spans
fields_below bytes ss ts ts' all spans n h e a f small r = λ k d l.
    let lists : map (relocations_in all) spans ≡ map (λ (s : Section). relocations_at bytes s.number.0)
    (map (λ (t : SectionTable). t.section) ts) =
    r.lists ∙ ap (map (λ (s : Section). relocations_at bytes s.number.0)) (sym a.same) in
    let long : length spans ≡ length ts = sym (length-map spans (relocations_in all)) ∙ ap length lists
    ∙ length-map (map (λ (t : SectionTable). t.section) ts) (λ (s : Section). relocations_at bytes s.number.0)
    ∙ length-map ts (λ (t : SectionTable). t.section) in
    let m : k < length ts = omega arith in
    let t = get_or ts k no_table in
    let same : relocations_in all (get_or spans k d) ≡ relocations_at bytes t.section.number.0 = read_same all
    (λ (s : Section). relocations_at bytes s.number.0)
    (λ (t : SectionTable). t.section) spans ts k d no_table lists l m in
    let o : has_field_outside bytes t.section ≡ false = mapped_none (λ (t : SectionTable). t.section)
    (has_field_outside bytes) ts k no_table m
    (ap (list_any (has_field_outside bytes)) (a.same ∙ e) ∙ bounds_in bytes (bounds_hold bytes h)) in
    span_below bytes all t (get_or spans k d) n (a.each k no_table m)
    (subst (λ xs. 0 < (get_or xs k no_table).count → (get_or xs k no_table).section.size ≤ n) f
    (small k no_table (omega (arith, ap length f)))) o (r.within k d l).end same
