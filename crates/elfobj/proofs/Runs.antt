-- The relocations of a table are a part of the run of entries that covers it.
use Rattle.elfobj.proofs.Common.{All, All-head, All-more, All-push, All-tail, All-weaker, AreRelocated, IsInside}
use Rattle.elfobj.proofs.Common.{IsTableOf, List, Progbits, Relocation, Span, [], ap, append-nil, append_assoc, arith}
use Rattle.elfobj.proofs.Common.{cases_lt, div-add-mod, drop, get_or, get_or_append_left, get_or_push, length}
use Rattle.elfobj.proofs.Common.{length-append, length-drop, length-map, map, map-append, map_push, refl}
use Rattle.elfobj.proofs.Common.{relocation_entries_below, relocation_entry_at, relocation_of, relocations_at}
use Rattle.elfobj.proofs.Common.{relocations_in, slice_range, subst, suc, sym, table_entries, take, take_all, take_more}
use Rattle.elfobj.proofs.Common.{zero, ℕ, ⊎_elim, ◌%◌, ◌*◌, ◌++◌, ◌+◌, ◌-◌, ◌/◌, ◌<◌, ◌∙◌, ◌∷◌, ◌≡◌, ◌≤◌}
use Rattle.std.proofs.Math.Seq.{drop-append-add}
use Rattle.std.proofs.lemmas.List.{drop-append-le, take-append-le}
use Rattle.elfobj.specs.Runs.{AreRuns, IsCovered, IsRun}
use Rattle.elfobj.specs.declared.relocation_run.RelocationRun.{RelocationRun}
use Rattle.elfobj.specs.declared.relocation_run.SectionTable.{SectionTable}
use Rattle.elfobj_file.specs.declared.section.Section.{Section}
use Rattle.elfobj_file.proofs.Cuts.{cut_cut}

-- entries one after another
entries_length : (bytes : List ℕ) (start n : ℕ) → length (relocation_entries_below bytes start n) ≡ n
entries_length bytes start zero = refl
entries_length bytes start (suc n) = let h = entries_length bytes start n in
    rw (length-append (relocation_entries_below bytes start n) (relocation_entry_at bytes (start + 24 * n) ∷ []))
    (omega arith)

entries_split : (bytes : List ℕ) (start j n : ℕ)
    → relocation_entries_below bytes start
    (j + n) ≡ relocation_entries_below bytes start j ++ relocation_entries_below bytes (start + 24 * j) n
entries_split bytes start j zero =
    let e : j + 0 ≡ j = omega arith in
    ap (relocation_entries_below bytes start) e ∙ sym (append-nil (relocation_entries_below bytes start j))
entries_split bytes start j (suc n) =
    let e : j + suc n ≡ suc (j + n) = omega arith in
    let f : start + 24 * (j + n) ≡ start + 24 * j + 24 * n = omega arith in
    ap (relocation_entries_below bytes start) e
    ∙ ap (λ xs. xs ++ relocation_entry_at bytes (start + 24 * (j + n)) ∷ []) (entries_split bytes start j n)
    ∙ ap
    (λ k. (relocation_entries_below bytes start j ++ relocation_entries_below bytes
    (start + 24 * j) n) ++ relocation_entry_at bytes k ∷ []) f
    ∙ append_assoc (relocation_entries_below bytes start j) (relocation_entries_below bytes (start + 24 * j) n)
    (relocation_entry_at bytes (start + 24 * j + 24 * n) ∷ [])

-- a part of them, decoded
abbrev pub decoded : List ℕ → ℕ → ℕ → List Relocation
decoded bytes start n = map relocation_of (relocation_entries_below bytes start n)

decoded_length : (bytes : List ℕ) (start n : ℕ) → length (decoded bytes start n) ≡ n
decoded_length bytes start n = length-map (relocation_entries_below bytes start n) relocation_of
    ∙ entries_length bytes start n

decoded_split : (bytes : List ℕ) (start j n : ℕ)
    → decoded bytes start (j + n) ≡ decoded bytes start j ++ decoded bytes (start + 24 * j) n
decoded_split bytes start j n = ap (map relocation_of) (entries_split bytes start j n)
    ∙ map-append relocation_of (relocation_entries_below bytes start j)
    (relocation_entries_below bytes (start + 24 * j) n)

pub drop_front : (xs ys : List Relocation) (n : ℕ) → length xs ≡ n → drop n (xs ++ ys) ≡ ys
drop_front xs ys n e = let f : n ≡ length xs + 0 = omega arith in ap (λ k. drop k (xs ++ ys)) f
    ∙ drop-append-add xs ys 0

take_front : (xs ys : List Relocation) (n : ℕ) → length xs ≡ n → take n (xs ++ ys) ≡ xs
take_front xs ys n e = take-append-le n xs ys (omega arith) ∙ take_all n xs (omega arith)

part_of : (bytes : List ℕ) (start j n r : ℕ)
    → take n (drop j (decoded bytes start (j + (n + r)))) ≡ decoded bytes (start + 24 * j) n
part_of bytes start j n r =
    ap (λ xs. take n (drop j xs)) (decoded_split bytes start j (n + r))
    ∙ ap (take n) (drop_front (decoded bytes start j) (decoded bytes (start + 24 * j) (n + r)) j
    (decoded_length bytes start j))
    ∙ ap (take n) (decoded_split bytes (start + 24 * j) n r)
    ∙ take_front (decoded bytes (start + 24 * j) n) (decoded bytes (start + 24 * j + 24 * n) r) n
    (decoded_length bytes (start + 24 * j) n)

-- a part of a run: the entries of a table that the run covers
abbrev pub no_run : RelocationRun
no_run = record { low = 0; count = 0; first = 0 }

run_part : (bytes : List ℕ) (tables : List SectionTable) (all : List Relocation) (class : ℕ) (run : RelocationRun)
    (t : SectionTable) (s : Span) → IsRun bytes tables all class run → t.start % 24 ≡ class
    → run.low ≤ t.start / 24 → t.start / 24 + t.count ≤ run.low + run.count
    → s.start + run.low ≡ run.first + t.start / 24 → s.end ≡ s.start + t.count
    → relocations_in all s ≡ map relocation_of (table_entries bytes t)
run_part bytes tables all class run t s r m a b u v =
    let j : ℕ = t.start / 24 - run.low in
    let rest : ℕ = run.low + run.count - (t.start / 24 + t.count) in
    let whole : run.count ≡ j + (t.count + rest) = omega arith in
    let at : run.first + j ≡ s.start = omega arith in
    let end : run.first + j + t.count ≡ s.end = omega arith in
    let begin : 24 * run.low + class + 24 * j ≡ t.start = omega (arith, div-add-mod t.start 24) in
    ap (λ k. slice_range all k s.end) (sym at)
    ∙ ap (λ k. slice_range all (run.first + j) k) (sym end)
    ∙ sym (cut_cut all run.first run.count j t.count (omega arith))
    ∙ ap (λ xs. take t.count (drop j xs)) r.entries
    ∙ ap (λ n. take t.count (drop j (decoded bytes (24 * run.low + class) n))) whole
    ∙ part_of bytes (24 * run.low + class) j t.count rest
    ∙ ap (λ k. decoded bytes k t.count) begin

run_inside : (bytes : List ℕ) (tables : List SectionTable) (all : List Relocation) (class : ℕ) (run : RelocationRun)
    (t : SectionTable) (s : Span) → IsRun bytes tables all class run
    → run.low ≤ t.start / 24 → t.start / 24 + t.count ≤ run.low + run.count
    → s.start + run.low ≡ run.first + t.start / 24 → s.end ≡ s.start + t.count → IsInside (length all) s
run_inside bytes tables all class run t s r a b u v = record { order = omega arith; end = omega (arith, r.within) }

-- what a span has to be
pub record IsSpanOf (bytes : List ℕ) (all : List Relocation) (t : SectionTable) (s : Span) : Type 0 where
  pub inside : IsInside (length all) s
  pub relocations : relocations_in all s ≡ map relocation_of (table_entries bytes t)

pub span_none : (bytes : List ℕ) (all : List Relocation) (t : SectionTable) (s : Span) → t.count ≡ 0 → s.start ≡ 0
    → s.end ≡ 0 → IsSpanOf bytes all t s
span_none bytes all t s e a b = record {
  inside = record { order = omega arith; end = omega arith };
  relocations = ap (λ n. slice_range all s.start n) b ∙ ap (λ n. take (0 - n) (drop n all)) a
      ∙ sym (ap (λ n. map relocation_of (relocation_entries_below bytes t.start n)) e);
}

pub span_some : (bytes : List ℕ) (tables : List SectionTable) (all : List Relocation) (class : ℕ) (run : RelocationRun)
    (t : SectionTable) (s : Span) → IsRun bytes tables all class run → t.start % 24 ≡ class
    → run.low ≤ t.start / 24 → t.start / 24 + t.count ≤ run.low + run.count
    → s.start + run.low ≡ run.first + t.start / 24 → s.end ≡ s.start + t.count → IsSpanOf bytes all t s
span_some bytes tables all class run t s r m a b u v = record {
  inside = run_inside bytes tables all class run t s r a b u v;
  relocations = run_part bytes tables all class run t s r m a b u v;
}

pub spans_more : (bytes : List ℕ) (all : List Relocation) (tables : List SectionTable) (i : ℕ) (d : SectionTable)
    (spans spans' : List Span) (s : Span) → i < length tables → IsSpanOf bytes all (get_or tables i d) s
    → spans' ≡ spans ++ s ∷ []
    → AreRelocated (map (λ (t : SectionTable). map relocation_of (table_entries bytes t)) (take i tables)) all spans
    → AreRelocated (map (λ (t : SectionTable). map relocation_of (table_entries bytes t))
    (take (i + 1) tables)) all spans'
spans_more bytes all tables i d spans spans' s l is e a = rw e (record {
  lists = map_push (relocations_in all) spans s
      ∙ ap (λ xs. xs ++ relocations_in all s ∷ []) a.lists
      ∙ ap (λ x. map (λ (t : SectionTable). map relocation_of (table_entries bytes t)) (take i tables) ++ x ∷ [])
      is.relocations
      ∙ sym (map_push (λ (t : SectionTable). map relocation_of (table_entries bytes t)) (take i tables)
      (get_or tables i d))
      ∙ sym (ap (map (λ (t : SectionTable). map relocation_of (table_entries bytes t))) (take_more tables i d l));
  within = All-push (IsInside (length all)) spans s a.within is.inside;
})

-- the runs, after those of one more class are added
pub front_kept : (all rs : List Relocation) (first count : ℕ) → first + count ≤ length all
    → slice_range (all ++ rs) first (first + count) ≡ slice_range all first (first + count)
front_kept all rs first count h =
    let l = length-drop first all in
    ap (λ xs. take (first + count - first) xs) (drop-append-le first all rs (omega arith))
    ∙ take-append-le (first + count - first) (drop first all) rs (omega arith)

run_kept : (bytes : List ℕ) (tables : List SectionTable) (all rs : List Relocation) (class : ℕ) (run : RelocationRun)
    → IsRun bytes tables all class run → IsRun bytes tables (all ++ rs) class run
run_kept bytes tables all rs class run r = record {
  within = let l = length-append all rs in omega (arith, r.within);
  entries = front_kept all rs run.first run.count r.within ∙ r.entries;
  covers = r.covers;
}

run_new : (bytes : List ℕ) (tables : List SectionTable) (all : List Relocation) (class low count : ℕ)
    → All (IsCovered class low (low + count)) tables
    → IsRun bytes tables (all ++ decoded bytes (24 * low + class) count) class
    (record { low = low; count = count; first = length all })
run_new bytes tables all class low count h =
    let e : length all + count - length all ≡ count = omega arith in
    let m = decoded_length bytes (24 * low + class) count in
    record {
      within = let l = length-append all (decoded bytes (24 * low + class) count) in omega arith;
      entries = ap (λ n. take n (drop (length all) (all ++ decoded bytes (24 * low + class) count))) e
          ∙ ap (take count) (drop_front all (decoded bytes (24 * low + class) count) (length all) refl)
          ∙ take_all count (decoded bytes (24 * low + class) count) (omega arith);
      covers = h;
    }

pub runs_more : (bytes : List ℕ) (tables : List SectionTable) (all all' : List Relocation) (n low end count first : ℕ)
    (runs runs' : List RelocationRun) → low ≤ end → count ≡ end - low → All (IsCovered n low end) tables → first
    ≡ length all
    → all' ≡ all ++ decoded bytes (24 * low + n) count
    → runs' ≡ runs ++ record { low = low; count = count; first = first } ∷ [] → AreRuns bytes tables all n runs
    → AreRuns bytes tables all' (n + 1) runs'
runs_more bytes tables all all' n low end count first runs runs' l c h e f g a =
    let up : end ≡ low + count = omega arith in
    let one = run_new bytes tables all n low count (subst (λ k. All (IsCovered n low k) tables) up h) in
    rw (f, g, e) (record {
      count = let m = length-append runs (record { low = low; count = count; first = length all } ∷ []) in
          omega (arith, a.count);
      each = λ class d m. ⊎_elim
          (λ k. subst (IsRun bytes tables (all ++ decoded bytes (24 * low + n) count) class)
          (sym (get_or_append_left runs (record { low = low; count = count; first = length all } ∷ []) d class
          (omega (arith, a.count))))
          (run_kept bytes tables all (decoded bytes (24 * low + n) count) class (get_or runs class d)
          (a.each class d k)))
          (λ k. let same : class ≡ n = omega arith in
          subst (λ i. IsRun bytes tables (all ++ decoded bytes (24 * low + n) count) i
          (get_or (runs ++ record { low = low; count = count; first = length all } ∷ []) i d)) (sym same)
          (subst (IsRun bytes tables (all ++ decoded bytes (24 * low + n) count) n)
          (sym (get_or_push runs (record { low = low; count = count; first = length all }) d n a.count)) one))
          (cases_lt class n);
    })

-- numbers of entries that cover one more table
pub cover_more : (tables : List SectionTable) (i : ℕ) (d : SectionTable) (class low end low' end' : ℕ)
    → i < length tables → low' ≤ low → end ≤ end'
    → (0 < (get_or tables i d).count → (get_or tables i d).start % 24 ≡ class
    → (low' ≤ (get_or tables i d).start / 24) × ((get_or tables i d).start / 24 + (get_or tables i d).count ≤ end'))
    → All (IsCovered class low end) (take i tables) → All (IsCovered class low' end') (take (i + 1) tables)
cover_more tables i d class low end low' end' l a b h k =
    All-more (IsCovered class low' end') tables i d l
    (All-weaker (IsCovered class low end) (IsCovered class low' end')
    (λ t f s m. let p = f s m in (omega (arith, p.0), omega (arith, p.1))) (take i tables) k)
    h

pub cover_weaker : (tables : List SectionTable) (class low end low' end' : ℕ) → low' ≤ low → end ≤ end'
    → All (IsCovered class low end) tables → All (IsCovered class low' end') tables
cover_weaker tables class low end low' end' a b k =
    All-weaker (IsCovered class low end) (IsCovered class low' end')
    (λ t f s m. let p = f s m in (omega (arith, p.0), omega (arith, p.1))) tables k

abbrev pub no_table : SectionTable
no_table = record {
  section = record { number = record { 0 = 0 }; kind = Progbits; flags = 0; size = 0; alignment = 0 };
  start = 0;
  count = 0;
}

own_entries : (bytes : List ℕ) (tables : List SectionTable) → All (IsTableOf bytes) tables
    → map (λ (t : SectionTable). map relocation_of (table_entries bytes t)) tables ≡ map
    (λ (s : Section). relocations_at bytes s.number.0) (map (λ (t : SectionTable). t.section) tables)
own_entries bytes [] h = refl
own_entries bytes (t ∷ ts) h =
    ap (λ es. map relocation_of es ∷ map (λ (t : SectionTable). map relocation_of (table_entries bytes t)) ts)
    (All-head (IsTableOf bytes) t ts h).entries
    ∙ ap (λ xs. relocations_at bytes t.section.number.0 ∷ xs) (own_entries bytes ts (All-tail (IsTableOf bytes) t ts h))

-- the relocations of the tables are those of their sections
pub relocated_by : (bytes : List ℕ) (tables : List SectionTable) (all : List Relocation) (spans : List Span)
    → All (IsTableOf bytes) tables
    → AreRelocated (map (λ (t : SectionTable). map relocation_of (table_entries bytes t)) tables) all spans
    → AreRelocated (map (λ (s : Section). relocations_at bytes s.number.0)
    (map (λ (t : SectionTable). t.section) tables)) all spans
relocated_by bytes tables all spans h a = subst (λ ls. AreRelocated ls all spans) (own_entries bytes tables h) a

pub cover_all : (tables : List SectionTable) (i class low end : ℕ) → length tables ≤ i
    → All (IsCovered class low end) (take i tables) → All (IsCovered class low end) tables
cover_all tables i class low end l h = subst (All (IsCovered class low end)) (take_all i tables l) h

pub spans_all : (bytes : List ℕ) (all : List Relocation) (tables : List SectionTable) (i : ℕ) (spans : List Span)
    → length tables ≤ i
    → AreRelocated (map (λ (t : SectionTable). map relocation_of (table_entries bytes t)) (take i tables)) all spans
    → AreRelocated (map (λ (t : SectionTable). map relocation_of (table_entries bytes t)) tables) all spans
spans_all bytes all tables i spans l h =
    subst (λ ts. AreRelocated (map (λ (t : SectionTable). map relocation_of (table_entries bytes t)) ts) all spans)
    (take_all i tables l) h
