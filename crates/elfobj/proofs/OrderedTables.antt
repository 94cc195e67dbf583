-- Tables whose entries all pass and whose fields come one after another.
use Rattle.elfobj.proofs.Common.{All, All-head, All-push, All-tail, All-weaker, Any, AreRelocated, AreTablesOf, IfSome}
use Rattle.elfobj.proofs.Common.{IsInside, IsTableOf, List, None, Option, Relocation, RelocationEntry, Some, Span, []}
use Rattle.elfobj.proofs.Common.{ap, arith, drop, e_shnum, false, field_end, find, get_or, has_refused_entry, holds}
use Rattle.elfobj.proofs.Common.{is_refused_for, le-ltb, length, length-append, list_any, list_any-append, map}
use Rattle.elfobj.proofs.Common.{map_push, max, meets, min, or_from, or_parts, refl, relocation_entries_below}
use Rattle.elfobj.proofs.Common.{relocation_entry_at, relocation_of, relocation_refusals, relocations_at}
use Rattle.elfobj.proofs.Common.{relocations_in, share_bytes, slice_range, subst, suc, sym, symbols_of, table_entries}
use Rattle.elfobj.proofs.Common.{take, take_all, ℕ, ◌*◌, ◌++◌, ◌+◌, ◌-◌, ◌<◌, ◌∙◌, ◌∷◌, ◌≡◌, ◌≤◌}
use Rattle.elfobj_file.specs.Tables.{is_outside, is_strange_type, is_wrong_below, linked_sections, names_no_symbol}
use Rattle.elfobj_file.specs.declared.section.Section.{Section}
use Rattle.elfobj.specs.declared.relocation_run.SectionTable.{SectionTable}
use Rattle.elfobj.proofs.RelocationReads.{any_passes, none_mapped, none_refused, overlap_holds, sections_same}
use Rattle.elfobj.proofs.Runs.{IsSpanOf, decoded, drop_front, front_kept, spans_more}

-- what holds of the value that there is
pub told : {X : Type 0} (P : X → Type 0) (o : Option X) (x : X) → o ≡ Some x → IfSome o P → P x
told P o x e h = subst (λ o. IfSome o P) e h

-- one more entry
below_more : (bytes : List ℕ) (start k : ℕ)
    → relocation_entries_below bytes start (k + 1) ≡ relocation_entries_below bytes start k ++ relocation_entry_at bytes
    (start + 24 * k) ∷ []
below_more bytes start k = let e : k + 1 ≡ suc k = omega arith in ap (relocation_entries_below bytes start) e

pub decoded_more : (bytes : List ℕ) (start k : ℕ) (e : RelocationEntry) (r : Relocation)
    → e ≡ relocation_entry_at bytes (start + 24 * k) → r ≡ relocation_of e
    → decoded bytes start (k + 1) ≡ decoded bytes start k ++ r ∷ []
decoded_more bytes start k e r f g =
    ap (map relocation_of) (below_more bytes start k)
    ∙ map_push relocation_of (relocation_entries_below bytes start k) (relocation_entry_at bytes (start + 24 * k))
    ∙ ap (λ x. decoded bytes start k ++ x ∷ []) (ap relocation_of (sym f) ∙ sym g)

pub passes_more : (bytes : List ℕ) (n : ℕ) (s : Section) (start k : ℕ) (e : RelocationEntry) (r : Relocation)
    → e ≡ relocation_entry_at bytes (start + 24 * k) → r ≡ relocation_of e
    → names_no_symbol n e ≡ false → is_strange_type e ≡ false → is_outside s.kind s.size r ≡ false
    → list_any (is_refused_for Any n s) (relocation_entries_below bytes start k) ≡ false
    → list_any (is_refused_for Any n s) (relocation_entries_below bytes start (k + 1)) ≡ false
passes_more bytes n s start k e r f g a b c h =
    ap (list_any (is_refused_for Any n s)) (below_more bytes start k)
    ∙ ap (λ x. list_any (is_refused_for Any n s) (relocation_entries_below bytes start k ++ x ∷ [])) (sym f)
    ∙ list_any-append (is_refused_for Any n s) (relocation_entries_below bytes start k) (e ∷ [])
    ∙ or_from _ _ h (or_from _ _ (or_from _ _ (or_from _ _ a b) (ap (is_outside s.kind s.size) (sym g) ∙ c)) refl)

pub ends_more : (xs ys : List Relocation) (r : Relocation) (end end' : ℕ) → ys ≡ xs ++ r ∷ [] → end ≤ r.offset
    → end' ≡ field_end r → All (λ (x : Relocation). field_end x ≤ end) xs
    → All (λ (x : Relocation). field_end x ≤ end') ys
ends_more xs ys r end end' e h f a =
    subst (All (λ (x : Relocation). field_end x ≤ end')) (sym e)
    (All-push (λ (x : Relocation). field_end x ≤ end') xs r
    (All-weaker (λ (x : Relocation). field_end x ≤ end) (λ (x : Relocation). field_end x ≤ end')
    (λ x l. omega arith) xs a) (omega arith))

meets_after : (x r : Relocation) (n : ℕ) → field_end x ≤ n → n ≤ r.offset → meets x r ≡ false
meets_after x r n h k = le-ltb (max x.offset r.offset) (min (field_end x) (field_end r)) (omega arith)

pub none_share : share_bytes [] ≡ false
unfolding share_bytes
none_share = refl

share_push : (xs : List Relocation) (r : Relocation) (n : ℕ) → n ≤ r.offset
    → All (λ (x : Relocation). field_end x ≤ n) xs → share_bytes xs ≡ false → share_bytes (xs ++ r ∷ []) ≡ false
unfolding share_bytes
share_push [] r n l a h = refl
share_push (x ∷ xs) r n l a h =
    let p = or_parts _ _ h in
    or_from _ _
    (list_any-append (meets x) xs (r ∷ [])
    ∙ or_from _ _ p.0 (or_from _ _
    (meets_after x r n (All-head (λ (x : Relocation). field_end x ≤ n) x xs a) l) refl))
    (share_push xs r n l (All-tail (λ (x : Relocation). field_end x ≤ n) x xs a) p.1)

pub apart_more : (xs ys : List Relocation) (r : Relocation) (end : ℕ) → ys ≡ xs ++ r ∷ [] → end ≤ r.offset
    → All (λ (x : Relocation). field_end x ≤ end) xs → share_bytes xs ≡ false → share_bytes ys ≡ false
apart_more xs ys r end e l a h = ap share_bytes e ∙ share_push xs r end l a h

-- the relocations of one more table after all others
span_kept : (all rs : List Relocation) (s : Span) → IsInside (length all) s
    → relocations_in (all ++ rs) s ≡ relocations_in all s
span_kept all rs s i =
    let e : s.start + (s.end - s.start) ≡ s.end = omega (arith, i.order) in
    ap (slice_range (all ++ rs) s.start) (sym e) ∙ front_kept all rs s.start (s.end - s.start) (omega (arith, e, i.end))
    ∙ ap (slice_range all s.start) e

spans_kept : (all rs : List Relocation) (spans : List Span) → All (IsInside (length all)) spans
    → map (relocations_in (all ++ rs)) spans ≡ map (relocations_in all) spans
spans_kept all rs [] h = refl
spans_kept all rs (s ∷ ss) h =
    ap (λ x. x ∷ map (relocations_in (all ++ rs)) ss) (span_kept all rs s (All-head (IsInside (length all)) s ss h))
    ∙ ap (λ xs. relocations_in all s ∷ xs) (spans_kept all rs ss (All-tail (IsInside (length all)) s ss h))

relocated_kept : (lists : List (List Relocation)) (all rs : List Relocation) (spans : List Span)
    → AreRelocated lists all spans → AreRelocated lists (all ++ rs) spans
relocated_kept lists all rs spans a = record {
  lists = spans_kept all rs spans a.within ∙ a.lists;
  within = All-weaker (IsInside (length all)) (IsInside (length (all ++ rs)))
      (λ s i. record { order = i.order; end = let l = length-append all rs in omega (arith, i.end) }) spans a.within;
}

last_part : (all rs : List Relocation) (s : Span) → s.start ≡ length all → s.end ≡ length (all ++ rs)
    → relocations_in (all ++ rs) s ≡ rs
last_part all rs s a b =
    let l = length-append all rs in
    ap (λ k. take (s.end - k) (drop k (all ++ rs))) a
    ∙ ap (take (s.end - length all)) (drop_front all rs (length all) refl)
    ∙ take_all (s.end - length all) rs (omega arith)

last_span : (bytes : List ℕ) (all : List Relocation) (t : SectionTable) (s : Span) → s.start ≡ length all
    → s.end ≡ length (all ++ map relocation_of (table_entries bytes t))
    → IsSpanOf bytes (all ++ map relocation_of (table_entries bytes t)) t s
last_span bytes all t s a b =
    let l = length-append all (map relocation_of (table_entries bytes t)) in
    record {
      inside = record { order = omega arith; end = omega arith };
      relocations = last_part all (map relocation_of (table_entries bytes t)) s a b;
    }

pub tables_more : (bytes : List ℕ) (all all' : List Relocation) (tables : List SectionTable) (i : ℕ) (d : SectionTable)
    (spans spans' : List Span) (s : Span) → i < length tables
    → all' ≡ all ++ map relocation_of (table_entries bytes (get_or tables i d)) → s.start ≡ length all
    → s.end ≡ length all' → spans' ≡ spans ++ s ∷ []
    → AreRelocated (map (λ (t : SectionTable). map relocation_of (table_entries bytes t)) (take i tables)) all spans
    → AreRelocated (map (λ (t : SectionTable). map relocation_of (table_entries bytes t))
    (take (i + 1) tables)) all' spans'
tables_more bytes all all' tables i d spans spans' s l e a b f r =
    let t = get_or tables i d in
    let rs : List Relocation = map relocation_of (table_entries bytes t) in
    subst
    (λ xs. AreRelocated (map (λ (t : SectionTable). map relocation_of (table_entries bytes t))
    (take (i + 1) tables)) xs spans') (sym e)
    (spans_more bytes (all ++ rs) tables i d spans spans' s l (last_span bytes all t s a (b ∙ ap length e)) f
    (relocated_kept (map (λ (t : SectionTable). map relocation_of (table_entries bytes t)) (take i tables))
    all rs spans r))

-- all tables
pub passed_all : (bytes : List ℕ) (n : ℕ) (tables : List SectionTable) (i : ℕ) → length tables ≤ i
    → All (IsTableOf bytes) tables
    → All (λ (t : SectionTable). list_any (is_refused_for Any n t.section) (table_entries bytes t) ≡ false)
    (take i tables) → list_any (has_refused_entry Any bytes n) (map (λ (t : SectionTable). t.section) tables) ≡ false
passed_all bytes n tables i l h a =
    let b = subst
    (All (λ (t : SectionTable). list_any (is_refused_for Any n t.section) (table_entries bytes t) ≡ false))
    (take_all i tables l) a in
    none_mapped (λ (t : SectionTable). t.section) (has_refused_entry Any bytes n) tables
    (λ k d m. ap (list_any (is_refused_for Any n (get_or tables k d).section)) (sym (h k d m).entries) ∙ b k d m)

pub apart_all : (bytes : List ℕ) (tables : List SectionTable) (i : ℕ) (all : List Relocation) (spans : List Span)
    → length tables ≤ i → AreRelocated
    (map (λ (t : SectionTable). map relocation_of (table_entries bytes t)) (take i tables)) all spans
    → All (λ (t : SectionTable). share_bytes (map relocation_of (table_entries bytes t)) ≡ false) (take i tables)
    → list_any share_bytes (map (relocations_in all) spans) ≡ false
apart_all bytes tables i all spans l r a =
    ap (list_any share_bytes) r.lists
    ∙ none_mapped (λ (t : SectionTable). map relocation_of (table_entries bytes t)) share_bytes (take i tables) a

-- such tables are not refused
pub ordered_none : (bytes : List ℕ) (n : ℕ) (ss : List Section) (ts ts' : List SectionTable) (all : List Relocation)
    (spans : List Span) → is_wrong_below bytes (e_shnum bytes) ≡ false → n ≡ length (symbols_of bytes)
    → ss ≡ linked_sections bytes
    → ts' ≡ ts → AreTablesOf bytes ss ts
    → list_any (has_refused_entry Any bytes n) (map (λ (t : SectionTable). t.section) ts') ≡ false
    → AreRelocated (map (λ (s : Section). relocations_at bytes s.number.0) (map (λ (t : SectionTable). t.section) ts'))
    all spans → list_any share_bytes (map (relocations_in all) spans) ≡ false
    → find (holds bytes) relocation_refusals ≡ None
ordered_none bytes n ss ts ts' all spans w c e f a p r h =
    let same : map (λ (t : SectionTable). t.section) ts' ≡ ss = ap (map (λ (t : SectionTable). t.section)) f ∙ a.same in
    none_refused bytes
    (any_passes bytes n ss false w c e (sym p ∙ ap (list_any (has_refused_entry Any bytes n)) same) refl)
    (overlap_holds bytes ss all spans false e (sections_same bytes ss ts ts' all spans f a r) (sym h))
