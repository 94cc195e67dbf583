-- The relocations that are read are those of the linked sections; and the lowest refusal that their entries give.
use Rattle.elfobj.proofs.Common.{All, All-append, All-cons, All-get_or, All-map, All-nil, All-push, Any, AreRelocated}
use Rattle.elfobj.proofs.Common.{AreTablesOf, Bool, FieldBounds, FieldOverlap, IfSome, IsPermutation, IsTableOf}
use Rattle.elfobj.proofs.Common.{LinkedSection, List, NoMemory, None, ObjectRefusal, Option, PassesTests, Relocation}
use Rattle.elfobj.proofs.Common.{RelocationEntry, RelocationSection, RelocationType, SectionHeader, SectionKind, Some}
use Rattle.elfobj.proofs.Common.{Span, [], ap, arith, cases_lt, changes, e_shnum, entries_in, entry_refusals, false}
use Rattle.elfobj.proofs.Common.{find, find-append, get_or, has_refused_entry, header, headers, holds, inl, inr}
use Rattle.elfobj.proofs.Common.{is_out_of_bounds, is_refused_for, length, linked_kind, linked_section, list_any}
use Rattle.elfobj.proofs.Common.{list_any-append, list_any_none, map, map-append, map_push, option_or, option_to_list}
use Rattle.elfobj.proofs.Common.{or_from, or_left, or_parts, or_right, refl, relocation_entries}
use Rattle.elfobj.proofs.Common.{relocation_entries_below, relocation_entry_at, relocation_of, relocation_refusals}
use Rattle.elfobj.proofs.Common.{relocation_section, relocations_at, relocations_in, section_of, sections_below}
use Rattle.elfobj.proofs.Common.{sections_of, share_bytes, subst, suc, sym, symbols_of, table_entries, take, take_all}
use Rattle.elfobj.proofs.Common.{take_more, true, zero, ℕ, ⊎_elim, ◌*◌, ◌++◌, ◌+◌, ◌<◌, ◌||◌, ◌∙◌, ◌∷◌, ◌≡◌, ◌≤◌, ◌⊎◌}
use Rattle.std.proofs.lemmas.Bool.{and_parts}
use Rattle.std.proofs.lemmas.List.Sorted.{All-permutation, IsPermutation-map, list_any-IsPermutation}
use Rattle.elfobj_file.specs.Tables.{has_field_outside, has_overlap, has_shared_bytes, has_strange_symbol}
use Rattle.elfobj_file.specs.Tables.{has_strange_type, has_wrong_bounds, has_wrong_relocation_section, has_wrong_type}
use Rattle.elfobj_file.specs.Tables.{is_outside, is_wrong_below, linked_sections}
use Rattle.elfobj.specs.declared.relocation_fault.EntryFault.TheVariants.{Symbol, Kind, Bounds}
use Rattle.elfobj.specs.declared.relocation_run.SectionTable.{SectionTable}
use Rattle.elfobj_file.specs.declared.section.Section.{Section}
use Rattle.elfobj.proofs.Found.{found_is, found_not, relocations_in_file}
use Rattle.growth.specs.Memory.{no_memory}

-- numbers of linked sections are numbers of headers
one_below : (bytes : List ℕ) (n m : ℕ) (h : SectionHeader) (o : Option SectionKind) → n < m
    → All (λ (s : LinkedSection). s.number.0 < m) (option_to_list (linked_section bytes n h o))
one_below bytes n m h None l = All-nil (λ (s : LinkedSection). s.number.0 < m)
one_below bytes n m h (Some kind) l =
    All-cons (λ (s : LinkedSection). s.number.0 < m) _ [] l (All-nil (λ (s : LinkedSection). s.number.0 < m))

pub all_below : (bytes : List ℕ) (n m : ℕ) → n ≤ m
    → All (λ (s : LinkedSection). s.number.0 < m) (sections_below bytes n)
all_below bytes zero m l = All-nil (λ (s : LinkedSection). s.number.0 < m)
all_below bytes (suc n) m l =
    All-append (λ (s : LinkedSection). s.number.0 < m) _ _ (all_below bytes n m (omega arith))
    (one_below bytes n m (header bytes n) (linked_kind (header bytes n)) (omega arith))

numbers_below : (bytes : List ℕ) → All (λ (s : Section). s.number.0 < e_shnum bytes) (linked_sections bytes)
unfolding sections_of
numbers_below bytes = All-map (λ (s : Section). s.number.0 < e_shnum bytes) section_of
    (sections_below bytes (e_shnum bytes)) (all_below bytes (e_shnum bytes) (e_shnum bytes) (omega arith))

pub number_below : (bytes : List ℕ) (ss : List Section) (i : ℕ) (d : Section) → ss ≡ linked_sections bytes
    → i < length ss → (get_or ss i d).number.0 < e_shnum bytes
number_below bytes ss i d e l =
    All-get_or (λ (s : Section). s.number.0 < e_shnum bytes) ss i d l
    (subst (λ xs. All (λ (s : Section). s.number.0 < e_shnum bytes) xs) (sym e) (numbers_below bytes))

-- a relocation section that is found lies in the file
pub table_in_file : (bytes : List ℕ) (k : ℕ) (t : SectionHeader) → PassesTests bytes
    → relocation_section bytes k ≡ Some t → t.sh_offset + t.sh_size ≤ length bytes
unfolding holds relocation_section
table_in_file bytes k t p e =
    let changes_it = found_is (changes k) (headers bytes) t e in
    (relocations_in_file (length bytes) t (and_parts _ _ changes_it).0
    (found_not (changes k) (is_out_of_bounds (length bytes)) (headers bytes) t e (or_parts _ _ p.bounds).1)).end

pub table_told : (bytes : List ℕ) (k : ℕ) (o : Option SectionHeader) → PassesTests bytes
    → o ≡ relocation_section bytes k → IfSome o (λ h. h.sh_offset + h.sh_size ≤ length bytes)
table_told bytes k None p e = tt
table_told bytes k (Some t) p e = table_in_file bytes k t p (sym e)

-- the relocations of each linked section are those of its number
one_same : (bytes : List ℕ) (n : ℕ) (h : SectionHeader) (o : Option SectionKind)
    → map (λ (s : LinkedSection). s.relocations) (option_to_list (linked_section bytes n h o)) ≡ map
    (λ (s : Section). relocations_at bytes s.number.0) (map section_of (option_to_list (linked_section bytes n h o)))
one_same bytes n h None = refl
one_same bytes n h (Some kind) = refl

lists_same : (bytes : List ℕ) (n : ℕ)
    → map (λ (s : LinkedSection). s.relocations) (sections_below bytes n) ≡ map
    (λ (s : Section). relocations_at bytes s.number.0) (map section_of (sections_below bytes n))
lists_same bytes zero = refl
lists_same bytes (suc n) =
    map-append (λ (s : LinkedSection). s.relocations) (sections_below bytes n)
    (option_to_list (linked_section bytes n (header bytes n) (linked_kind (header bytes n))))
    ∙ ap (λ xs. xs ++ map (λ (s : LinkedSection). s.relocations)
    (option_to_list (linked_section bytes n (header bytes n) (linked_kind (header bytes n))))) (lists_same bytes n)
    ∙ ap (λ xs. map (λ (s : Section). relocations_at bytes s.number.0) (map section_of (sections_below bytes n)) ++ xs)
    (one_same bytes n (header bytes n) (linked_kind (header bytes n)))
    ∙ sym (ap (λ xs. map (λ (s : Section). relocations_at bytes s.number.0) xs)
    (map-append section_of (sections_below bytes n)
    (option_to_list (linked_section bytes n (header bytes n) (linked_kind (header bytes n)))))
    ∙ map-append (λ (s : Section). relocations_at bytes s.number.0) (map section_of (sections_below bytes n))
    (map section_of (option_to_list (linked_section bytes n (header bytes n) (linked_kind (header bytes n))))))

pub relocated_all : (bytes : List ℕ) (ss : List Section) (all : List Relocation) (ps : List Span)
    → ss ≡ linked_sections bytes → AreRelocated (map (λ (s : Section). relocations_at bytes s.number.0) ss) all ps
    → AreRelocated (map (λ (s : LinkedSection). s.relocations) (sections_of bytes)) all ps
unfolding sections_of
relocated_all bytes ss all ps e a =
    subst (λ ls. AreRelocated ls all ps) (sym (lists_same bytes (e_shnum bytes)))
    (subst (λ xs. AreRelocated (map (λ (s : Section). relocations_at bytes s.number.0) xs) all ps) e a)

-- one more table
pub tables_of_more : (bytes : List ℕ) (ss : List Section) (i : ℕ) (d : Section) (ts ts' : List SectionTable)
    (t : SectionTable) (o : Option SectionHeader) → i < length ss → t.section ≡ get_or ss i d
    → o ≡ relocation_section bytes (get_or ss i d).number.0 → table_entries bytes t ≡ entries_in bytes o
    → t.start + 24 * t.count ≤ length bytes → ts' ≡ ts ++ t ∷ [] → AreTablesOf bytes (take i ss) ts
    → AreTablesOf bytes (take (i + 1) ss) ts'
tables_of_more bytes ss i d ts ts' t o l e f g h k a = rw k (record {
  same = map_push (λ (t : SectionTable). t.section) ts t ∙ ap (λ xs. xs ++ t.section ∷ []) a.same
      ∙ ap (λ s. take i ss ++ s ∷ []) e ∙ sym (take_more ss i d l);
  each = All-push (IsTableOf bytes) ts t a.each (record {
    entries = g ∙ ap (entries_in bytes) f ∙ ap (λ (s : Section). relocation_entries bytes s.number.0) (sym e);
    within = h;
  });
})

pub tables_of_all : (bytes : List ℕ) (ss : List Section) (i : ℕ) (ts : List SectionTable) → length ss ≤ i
    → AreTablesOf bytes (take i ss) ts → AreTablesOf bytes ss ts
tables_of_all bytes ss i ts l a = subst (λ xs. AreTablesOf bytes xs ts) (take_all i ss l) a

-- one that passes a test
pub found_entry : (p : RelocationEntry → Bool) (bytes : List ℕ) (start n k : ℕ) → k < n
    → p (relocation_entry_at bytes (start + 24 * k)) ≡ true → list_any p (relocation_entries_below bytes start n) ≡ true
found_entry p bytes start zero k l h = absurd (omega arith)
found_entry p bytes start (suc n) k l h =
    list_any-append p (relocation_entries_below bytes start n) (relocation_entry_at bytes (start + 24 * n) ∷ [])
    ∙ ⊎_elim
    (λ m. or_left _ _ (found_entry p bytes start n k m h))
    (λ m. let e : k ≡ n = omega arith in
    or_right _ _ (or_left _ _ (ap (λ i. p (relocation_entry_at bytes (start + 24 * i))) (sym e) ∙ h)))
    (cases_lt k n)

pub found_mapped : {X Y : Type 0} (f : X → Y) (p : Y → Bool) (xs : List X) (i : ℕ) (d : X) → i < length xs
    → p (f (get_or xs i d)) ≡ true → list_any p (map f xs) ≡ true
found_mapped f p [] i d l h = absurd (omega arith)
found_mapped f p (x ∷ xs) zero d l h = or_left _ _ h
found_mapped f p (x ∷ xs) (suc i) d l h = or_right _ _ (found_mapped f p xs i d (omega arith) h)

any_mapped : {X Y : Type 0} (f : X → Y) (p : Y → Bool) (xs : List X)
    → list_any p (map f xs) ≡ list_any (λ x. p (f x)) xs
any_mapped f p [] = refl
any_mapped f p (x ∷ xs) = ap (λ b. p (f x) || b) (any_mapped f p xs)

any_same : {X : Type 0} (p q : X → Bool) (xs : List X) → ((x : X) → p x ≡ q x) → list_any p xs ≡ list_any q xs
any_same p q [] h = refl
any_same p q (x ∷ xs) h = ap (λ b. b || list_any p xs) (h x) ∙ ap (λ b. q x || b) (any_same p q xs h)

outside_same : (bytes : List ℕ) (n : ℕ) (s : Section) → has_refused_entry Bounds bytes n s ≡ has_field_outside bytes s
outside_same bytes n s = sym (any_mapped relocation_of (is_outside s.kind s.size) (relocation_entries bytes s.number.0))

-- the conditions of the refusals that entries give
pub symbol_holds : (bytes : List ℕ) (n : ℕ) (ss : List Section) (r : Bool)
    → is_wrong_below bytes (e_shnum bytes) ≡ false → n ≡ length (symbols_of bytes) → ss ≡ linked_sections bytes
    → r ≡ list_any (has_refused_entry Symbol bytes n) ss
    → holds bytes RelocationSection ≡ r
unfolding holds has_wrong_relocation_section
symbol_holds bytes n ss r w c e h =
    ap (λ b. b || list_any (has_strange_symbol bytes (length (symbols_of bytes))) (linked_sections bytes)) w
    ∙ ap (λ m. list_any (has_strange_symbol bytes m) (linked_sections bytes)) (sym c)
    ∙ ap (list_any (has_strange_symbol bytes n)) (sym e) ∙ sym h

pub kind_holds : (bytes : List ℕ) (n : ℕ) (ss : List Section) (r : Bool) → ss ≡ linked_sections bytes
    → r ≡ list_any (has_refused_entry Kind bytes n) ss → holds bytes RelocationType ≡ r
unfolding holds has_wrong_type
kind_holds bytes n ss r e h = ap (list_any (has_strange_type bytes)) (sym e) ∙ sym h

pub bounds_holds : (bytes : List ℕ) (n : ℕ) (ss : List Section) (r : Bool) → ss ≡ linked_sections bytes
    → r ≡ list_any (has_refused_entry Bounds bytes n) ss → holds bytes FieldBounds ≡ r
unfolding holds has_wrong_bounds
bounds_holds bytes n ss r e h =
    ap (list_any (has_field_outside bytes)) (sym e)
    ∙ sym (any_same (has_refused_entry Bounds bytes n) (has_field_outside bytes) ss (outside_same bytes n)) ∙ sym h

pub overlap_holds : (bytes : List ℕ) (ss : List Section) (all : List Relocation) (spans : List Span) (r : Bool)
    → ss ≡ linked_sections bytes → AreRelocated (map (λ (s : Section). relocations_at bytes s.number.0) ss) all spans
    → r ≡ list_any share_bytes (map (relocations_in all) spans) → holds bytes FieldOverlap ≡ r
unfolding holds has_overlap
overlap_holds bytes ss all spans r e a h =
    ap (list_any (has_shared_bytes bytes)) (sym e)
    ∙ sym (any_mapped (λ (s : Section). relocations_at bytes s.number.0) share_bytes ss)
    ∙ ap (list_any share_bytes) (sym a.lists) ∙ sym h

-- the lowest refusal, by these conditions
pub first_symbol : (bytes : List ℕ) → holds bytes RelocationSection ≡ true
    → find (holds bytes) entry_refusals ≡ Some RelocationSection
first_symbol bytes a = rw a refl

pub first_kind : (bytes : List ℕ) → holds bytes RelocationSection ≡ false → holds bytes RelocationType ≡ true
    → find (holds bytes) entry_refusals ≡ Some RelocationType
first_kind bytes a b = rw (a, b) refl

pub first_bounds : (bytes : List ℕ) → holds bytes RelocationSection ≡ false → holds bytes RelocationType ≡ false
    → holds bytes FieldBounds ≡ true → find (holds bytes) entry_refusals ≡ Some FieldBounds
first_bounds bytes a b c = rw (a, b, c) refl

pub first_none : (bytes : List ℕ) → holds bytes RelocationSection ≡ false → holds bytes RelocationType ≡ false
    → holds bytes FieldBounds ≡ false → find (holds bytes) entry_refusals ≡ None
first_none bytes a b c = rw (a, b, c) refl

entries_first : (bytes : List ℕ)
    → find (holds bytes) relocation_refusals ≡ option_or (find (holds bytes) entry_refusals)
    (find (holds bytes) (FieldOverlap ∷ []))
entries_first bytes = find-append (holds bytes) entry_refusals (FieldOverlap ∷ [])

pub entry_refused : (bytes : List ℕ) (r : ObjectRefusal) → find (holds bytes) entry_refusals ≡ Some r
    → find (holds bytes) relocation_refusals ≡ Some r
entry_refused bytes r h = entries_first bytes ∙ ap (λ o. option_or o (find (holds bytes) (FieldOverlap ∷ []))) h

pub overlap_refused : (bytes : List ℕ) → find (holds bytes) entry_refusals ≡ None → holds bytes FieldOverlap ≡ true
    → find (holds bytes) relocation_refusals ≡ Some FieldOverlap
overlap_refused bytes h k = entries_first bytes
    ∙ ap (λ o. option_or o (find (holds bytes) (FieldOverlap ∷ []))) h ∙ rw k refl

pub none_refused : (bytes : List ℕ) → find (holds bytes) entry_refusals ≡ None → holds bytes FieldOverlap ≡ false
    → find (holds bytes) relocation_refusals ≡ None
none_refused bytes h k = entries_first bytes
    ∙ ap (λ o. option_or o (find (holds bytes) (FieldOverlap ∷ []))) h ∙ rw k refl

-- the refusals that relocation sections give
pub sections_refused : (bytes : List ℕ) → is_wrong_below bytes (e_shnum bytes) ≡ true
    → find (holds bytes) relocation_refusals ≡ Some RelocationSection
unfolding holds has_wrong_relocation_section
sections_refused bytes h = rw h refl

pub err_told : (bytes : List ℕ) (e : ObjectRefusal)
    → (e ≡ NoMemory no_memory) ⊎ ((e ≡ RelocationSection) × (is_wrong_below bytes (e_shnum bytes) ≡ true))
    → (e ≡ NoMemory no_memory) ⊎ (find (holds bytes) relocation_refusals ≡ Some e)
err_told bytes e h = ⊎_elim (λ a. inl a) (λ a. inr (sections_refused bytes a.1 ∙ ap (λ x. Some x) (sym a.0))) h

pub sections_same : (bytes : List ℕ) (ss : List Section) (ts ts' : List SectionTable) (all : List Relocation)
    (spans : List Span) → ts' ≡ ts → AreTablesOf bytes ss ts
    → AreRelocated (map (λ (s : Section). relocations_at bytes s.number.0) (map (λ (t : SectionTable). t.section) ts'))
    all spans → AreRelocated (map (λ (s : Section). relocations_at bytes s.number.0) ss) all spans
sections_same bytes ss ts ts' all spans e a r =
    subst (λ xs. AreRelocated (map (λ (s : Section). relocations_at bytes s.number.0) xs) all spans)
    (ap (map (λ (t : SectionTable). t.section)) e ∙ a.same) r

-- one more that does not pass a test
pub none_more : {X Y : Type 0} (f : X → Y) (p : Y → Bool) (xs : List X) (i : ℕ) (d : X) → i < length xs
    → p (f (get_or xs i d)) ≡ false → list_any p (map f (take i xs)) ≡ false
    → list_any p (map f (take (i + 1) xs)) ≡ false
none_more f p xs i d l e h =
    ap (λ ys. list_any p (map f ys)) (take_more xs i d l)
    ∙ ap (list_any p) (map_push f (take i xs) (get_or xs i d))
    ∙ list_any-append p (map f (take i xs)) (f (get_or xs i d) ∷ [])
    ∙ or_from _ _ h (or_from _ _ e refl)

pub none_mapped : {X Y : Type 0} (f : X → Y) (p : Y → Bool) (xs : List X) → All (λ x. p (f x) ≡ false) xs
    → list_any p (map f xs) ≡ false
none_mapped f p xs h = any_mapped f p xs ∙ list_any_none (λ x. p (f x)) xs h

-- the same of all tables in another order
pub sorted_tables : (bytes : List ℕ) (ts ts' ds : List SectionTable) → ds ≡ ts' → IsPermutation ts ts'
    → All (IsTableOf bytes) ts → All (IsTableOf bytes) ds
sorted_tables bytes ts ts' ds e q h =
    subst (All (IsTableOf bytes)) (sym e) (All-permutation (IsTableOf bytes) ts ts' q h)

pub any_sorted : (p : Section → Bool) (ss : List Section) (ts ts' ds : List SectionTable) (r : Bool) → ds ≡ ts'
    → IsPermutation ts ts' → map (λ (t : SectionTable). t.section) ts ≡ ss
    → r ≡ list_any p (map (λ (t : SectionTable). t.section) ds) → r ≡ list_any p ss
any_sorted p ss ts ts' ds r d q e h =
    h ∙ ap (λ xs. list_any p (map (λ (t : SectionTable). t.section) xs)) d
    ∙ sym (list_any-IsPermutation p _ _ (IsPermutation-map (λ (t : SectionTable). t.section) ts ts' q))
    ∙ ap (list_any p) e

-- no entry is refused in any way
any_none : (n : ℕ) (s : Section) (es : List RelocationEntry) → list_any (is_refused_for Any n s) es ≡ false
    → (list_any (is_refused_for Symbol n s) es ≡ false) × (list_any (is_refused_for Kind n s) es ≡ false)
    × (list_any (is_refused_for Bounds n s) es ≡ false)
any_none n s [] h = (refl, refl, refl)
any_none n s (e ∷ es) h =
    let p = or_parts _ _ h in
    let r = any_none n s es p.1 in
    let q = or_parts _ _ p.0 in
    let o = or_parts _ _ q.0 in
    (or_from _ _ o.0 r.0, or_from _ _ o.1 r.1, or_from _ _ q.1 r.2)

all_none : (bytes : List ℕ) (n : ℕ) (ss : List Section) → list_any (has_refused_entry Any bytes n) ss ≡ false
    → (list_any (has_refused_entry Symbol bytes n) ss ≡ false) × (list_any (has_refused_entry Kind bytes n) ss ≡ false)
    × (list_any (has_refused_entry Bounds bytes n) ss ≡ false)
all_none bytes n [] h = (refl, refl, refl)
all_none bytes n (s ∷ ss) h =
    let p = or_parts _ _ h in
    let r = all_none bytes n ss p.1 in
    let q = any_none n s (relocation_entries bytes s.number.0) p.0 in
    (or_from _ _ q.0 r.0, or_from _ _ q.1 r.1, or_from _ _ q.2 r.2)

pub any_passes : (bytes : List ℕ) (n : ℕ) (ss : List Section) (r : Bool) → is_wrong_below bytes (e_shnum bytes) ≡ false
    → n ≡ length (symbols_of bytes) → ss ≡ linked_sections bytes
    → r ≡ list_any (has_refused_entry Any bytes n) ss → r ≡ false
    → find (holds bytes) entry_refusals ≡ None
any_passes bytes n ss r w c e h f =
    let a = all_none bytes n ss (sym h ∙ f) in
    first_none bytes (symbol_holds bytes n ss _ w c e (sym a.0)) (kind_holds bytes n ss _ e (sym a.1))
    (bounds_holds bytes n ss _ e (sym a.2))
