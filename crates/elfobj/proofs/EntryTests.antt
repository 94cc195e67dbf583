-- Entries that have passed, for a section and for all that are no smaller.
use Rattle.elfobj.proofs.Common.{All, Any, Bool, FiniArray, HavePassed, InitArray, IsNonDecreasingBy, IsTableOf, List}
use Rattle.elfobj.proofs.Common.{Nobits, Note, PassesIn, PreinitArray, Progbits, Relocation, RelocationEntry}
use Rattle.elfobj.proofs.Common.{SectionKind, Unwind, ap, arith, cases_lt, ends_in, false, field_end, field_ends}
use Rattle.elfobj.proofs.Common.{get_or, get_or-set_other, get_or-set_same, get_or_default, has_refused_entry, inl, inr}
use Rattle.elfobj.proofs.Common.{is_refused_for, le-ltb, length, length-set, list_any, list_any-append, ltb-false, map}
use Rattle.elfobj.proofs.Common.{mod-lt, or_from, or_parts, refl, relocation_entries_below, relocation_entry_at}
use Rattle.elfobj.proofs.Common.{relocation_of, slice_set, subst, suc, sym, take, take_all, true≢false, zero, ℕ, ⊎_elim}
use Rattle.elfobj.proofs.Common.{◌%◌, ◌*◌, ◌+◌, ◌<◌, ◌∙◌, ◌≡◌, ◌≢◌, ◌≤◌}
use Rattle.elfobj_file.specs.Tables.{is_outside}
use Rattle.elfobj.specs.declared.relocation_fault.EntryFault.{EntryFault}
use Rattle.elfobj.specs.declared.relocation_fault.EntryFault.TheVariants.{Symbol, Kind, Bounds}
use Rattle.elfobj.specs.declared.relocation_run.SectionTable.{SectionTable}
use Rattle.elfobj_file.specs.declared.section.Section.{Section}
use Rattle.elfobj.proofs.RelocationReads.{none_mapped}

-- a field that lies in a section lies in all that are no smaller
ends_before : (kind : SectionKind) (size : ℕ) (r : Relocation) → is_outside kind size r ≡ false
    → field_end r < ends_in kind size
ends_before Progbits size r h = let l = ltb-false size (field_end r) h in omega arith
ends_before Nobits size r h = absurd (true≢false h)
ends_before Note size r h = let l = ltb-false size (field_end r) h in omega arith
ends_before InitArray size r h = let l = ltb-false size (field_end r) h in omega arith
ends_before FiniArray size r h = let l = ltb-false size (field_end r) h in omega arith
ends_before PreinitArray size r h = let l = ltb-false size (field_end r) h in omega arith
ends_before Unwind size r h = let l = ltb-false size (field_end r) h in omega arith

inside_by : (kind : SectionKind) (size : ℕ) (r : Relocation) → field_end r < ends_in kind size
    → is_outside kind size r ≡ false
inside_by Progbits size r h = le-ltb size (field_end r) (omega arith)
inside_by Nobits size r h = absurd (omega arith)
inside_by Note size r h = le-ltb size (field_end r) (omega arith)
inside_by InitArray size r h = le-ltb size (field_end r) (omega arith)
inside_by FiniArray size r h = le-ltb size (field_end r) (omega arith)
inside_by PreinitArray size r h = le-ltb size (field_end r) (omega arith)
inside_by Unwind size r h = le-ltb size (field_end r) (omega arith)

inside_larger : (s t : Section) (r : Relocation) → field_ends s ≤ field_ends t → is_outside s.kind s.size r ≡ false
    → is_outside t.kind t.size r ≡ false
inside_larger s t r l h = let m = ends_before s.kind s.size r h in inside_by t.kind t.size r (omega arith)

passes_larger : (fault : EntryFault) (n : ℕ) (s t : Section) (e : RelocationEntry) → field_ends s ≤ field_ends t
    → is_refused_for fault n s e ≡ false → is_refused_for fault n t e ≡ false
passes_larger Any n s t e l h = let p = or_parts _ _ h in or_from _ _ p.0 (inside_larger s t (relocation_of e) l p.1)
passes_larger Symbol n s t e l h = h
passes_larger Kind n s t e l h = h
passes_larger Bounds n s t e l h = inside_larger s t (relocation_of e) l h

pub passed_larger : (fault : EntryFault) (bytes : List ℕ) (n : ℕ) (s t : Section) (base : ℕ) (past : List ℕ)
    → field_ends s ≤ field_ends t → HavePassed fault bytes n s base past → HavePassed fault bytes n t base past
passed_larger fault bytes n s t base past l h = record {
  low = h.low;
  high = h.high;
  each = λ k j a b c. passes_larger fault n s t (relocation_entry_at bytes (base + 24 * j)) l (h.each k j a b c);
}

-- none has passed
pub passed_none : (fault : EntryFault) (bytes : List ℕ) (n : ℕ) (s : Section) (base count : ℕ) (past : List ℕ)
    → length past ≡ count → ((k : ℕ) → k < count → get_or past k 0 ≡ k) → HavePassed fault bytes n s base past
passed_none fault bytes n s base count past e h = record {
  low = λ k l. let o = h k (omega arith) in omega arith;
  high = λ k l. let o = h k (omega arith) in omega arith;
  each = λ k j l m o. let q = h k (omega arith) in absurd (omega arith);
}

-- one more has
pub passed_more : (fault : EntryFault) (bytes : List ℕ) (n : ℕ) (s : Section) (base at : ℕ) (past past' : List ℕ)
    → at < length past → past' ≡ slice_set past at (at + 1)
    → is_refused_for fault n s (relocation_entry_at bytes (base + 24 * at)) ≡ false
    → HavePassed fault bytes n s base past → HavePassed fault bytes n s base past'
passed_more fault bytes n s base at past past' l e f h = rw e (
    let long = length-set past at (at + 1) in
    let same = get_or-set_same past at (at + 1) 0 l in
    let other : (k : ℕ) → k ≢ at → get_or
    (slice_set past at (at + 1)) k 0 ≡ get_or past k 0 = λ k o. get_or-set_other past at k (at + 1) 0 o in
    record {
      low = λ k m. ⊎_elim
          (λ q. let r = other k (λ z. omega arith) in let g = h.low k (omega arith) in omega arith)
          (λ q. ⊎_elim
          (λ o. let r = other k (λ z. omega arith) in let g = h.low k (omega arith) in omega arith)
          (λ o. let z : k ≡ at = omega arith in
          subst (λ i. i ≤ get_or (slice_set past at (at + 1)) i 0) (sym z) (omega arith))
          (cases_lt at k))
          (cases_lt k at);
      high = λ k m. ⊎_elim
          (λ q. let r = other k (λ z. omega arith) in let g = h.high k (omega arith) in omega arith)
          (λ q. ⊎_elim
          (λ o. let r = other k (λ z. omega arith) in let g = h.high k (omega arith) in omega arith)
          (λ o. let z : k ≡ at = omega arith in
          subst (λ i. get_or (slice_set past at (at + 1)) i 0 ≤ length (slice_set past at (at + 1))) (sym z)
          (omega arith))
          (cases_lt at k))
          (cases_lt k at);
      each = λ k j m a b. ⊎_elim
          (λ q. let r = other k (λ z. omega arith) in h.each k j (omega arith) a (omega arith))
          (λ q. ⊎_elim
          (λ o. let r = other k (λ z. omega arith) in h.each k j (omega arith) a (omega arith))
          (λ o.
          let z : k ≡ at = omega arith in
          let b' : j < get_or (slice_set past at (at + 1)) at 0 = subst
          (λ i. j < get_or (slice_set past at (at + 1)) i 0) z b in
          let y : j ≡ at = omega arith in
          subst (λ i. is_refused_for fault n s (relocation_entry_at bytes (base + 24 * i)) ≡ false) (sym y) f)
          (cases_lt at k))
          (cases_lt k at);
    })

-- a table whose entries are not refused
pub none_refused : (p : RelocationEntry → Bool) (bytes : List ℕ) (start n : ℕ)
    → ((k : ℕ) → k < n → p (relocation_entry_at bytes (start + 24 * k)) ≡ false)
    → list_any p (relocation_entries_below bytes start n) ≡ false
none_refused p bytes start zero h = refl
none_refused p bytes start (suc n) h =
    list_any-append p (relocation_entries_below bytes start n) _
    ∙ or_from _ _ (none_refused p bytes start n (λ k l. h k (omega arith))) (or_from _ _ (h n (omega arith)) refl)

-- no table of a class, and then no table at all, has an entry that is refused
pub passes_all : (class : ℕ) (fault : EntryFault) (bytes : List ℕ) (n : ℕ) (ts : List SectionTable) (i : ℕ)
    → length ts ≤ i → All (PassesIn class fault bytes n) (take i ts) → All (PassesIn class fault bytes n) ts
passes_all class fault bytes n ts i l h = subst (All (PassesIn class fault bytes n)) (take_all i ts l) h

none_of_empty : (fault : EntryFault) (bytes : List ℕ) (n : ℕ) (t : SectionTable) → IsTableOf bytes t → t.count ≡ 0
    → has_refused_entry fault bytes n t.section ≡ false
none_of_empty fault bytes n t h e =
    ap (list_any (is_refused_for fault n t.section)) (sym h.entries)
    ∙ ap (λ k. list_any (is_refused_for fault n t.section) (relocation_entries_below bytes t.start k)) e

pub none_of_classes : (fault : EntryFault) (bytes : List ℕ) (n : ℕ) (ts : List SectionTable) → All (IsTableOf bytes) ts
    → ((class : ℕ) → class < 24 → All (PassesIn class fault bytes n) ts)
    → false ≡ list_any (has_refused_entry fault bytes n) (map (λ (t : SectionTable). t.section) ts)
none_of_classes fault bytes n ts h k =
    sym (none_mapped (λ (t : SectionTable). t.section) (has_refused_entry fault bytes n) ts
    (λ i d l. elim (cases_lt 0 (get_or ts i d).count) [
      | inl m ↦ k ((get_or ts i d).start % 24) (mod-lt (get_or ts i d).start (omega arith)) i d l m refl
      | inr m ↦ none_of_empty fault bytes n (get_or ts i d) (h i d l) (omega arith)
    ]))

pub ends_up : (ts : List SectionTable) (i j : ℕ) (d e : SectionTable)
    → IsNonDecreasingBy (λ (t : SectionTable). field_ends t.section) ts → i < length ts → i ≤ j → j < length ts
    → field_ends (get_or ts i e).section ≤ field_ends (get_or ts j d).section
ends_up ts i j d e up l a m = subst (λ (t : SectionTable). field_ends t.section ≤ field_ends (get_or ts j d).section)
    (get_or_default ts i d e l) (up i j d a m)
