-- The relocations of each linked section of an object that is not refused are within the profile.
use Rattle.elfobj.proofs.Common.{All, All-append, All-cons, All-nil, AreApart, Bool, FiniArray, HasRelocationsOfProfile}
use Rattle.elfobj.proofs.Common.{InitArray, IsRelocationOfProfile, LinkedSection, List, Nobits, None, Note, Option}
use Rattle.elfobj.proofs.Common.{PreinitArray, Progbits, Relocation, RelocationEntry, SectionHeader, SectionKind, Some}
use Rattle.elfobj.proofs.Common.{Unwind, [], ap, arith, e_shnum, false, field_end, get_or, header, holds, leb-false}
use Rattle.elfobj.proofs.Common.{length, linked_kind, linked_section, list_any, ltb-false, map, meets, object_refusal}
use Rattle.elfobj.proofs.Common.{option_to_list, or_parts, r_sym, refl, relocation_entries, relocation_of}
use Rattle.elfobj.proofs.Common.{relocations_at, section_of, sections_below, sections_of, share_bytes, subst, suc, sym}
use Rattle.elfobj.proofs.Common.{symbols_of, true≢false, zero, ℕ, ◌<◌, ◌∙◌, ◌∷◌, ◌≡◌, ◌≤◌}
use Rattle.std.proofs.lemmas.List.Kept.{AllPairs-cons}
use Rattle.elfobj_file.specs.Tables.{has_field_outside, has_overlap, has_shared_bytes, has_strange_symbol}
use Rattle.elfobj_file.specs.Tables.{has_wrong_bounds, has_wrong_relocation_section, is_outside, names_no_symbol}
use Rattle.elfobj_file.specs.declared.section.Section.{Section}
use Rattle.elfobj.proofs.Limits.{accepted_parts}

pub field_inside : (kind : SectionKind) (size : ℕ) (r : Relocation) → is_outside kind size r ≡ false
    → field_end r ≤ size
field_inside Progbits size r h = ltb-false size (field_end r) h
field_inside Nobits size r h = absurd (true≢false h)
field_inside Note size r h = ltb-false size (field_end r) h
field_inside InitArray size r h = ltb-false size (field_end r) h
field_inside FiniArray size r h = ltb-false size (field_end r) h
field_inside PreinitArray size r h = ltb-false size (field_end r) h
field_inside Unwind size r h = ltb-false size (field_end r) h

symbol_below : (n : ℕ) (e : RelocationEntry) → names_no_symbol n e ≡ false → (relocation_of e).symbol.0 < n
unfolding relocation_of
symbol_below n e h = leb-false n (r_sym e) h

all_inside : (n size : ℕ) (kind : SectionKind) (es : List RelocationEntry) → list_any (names_no_symbol n) es ≡ false
    → list_any (is_outside kind size) (map relocation_of es) ≡ false
    → All (IsRelocationOfProfile n size) (map relocation_of es)
all_inside n size kind [] h k = All-nil (IsRelocationOfProfile n size)
all_inside n size kind (e ∷ es) h k =
    let p = or_parts _ _ h in
    let q = or_parts _ _ k in
    All-cons (IsRelocationOfProfile n size) _ _
    (record { symbol = symbol_below n e p.0; field = field_inside kind size (relocation_of e) q.0 })
    (all_inside n size kind es p.1 q.1)

none_meets : (r : Relocation) (rs : List Relocation) → list_any (meets r) rs ≡ false → All (λ q. meets r q ≡ false) rs
none_meets r [] h = All-nil (λ q. meets r q ≡ false)
none_meets r (q ∷ rs) h = let p = or_parts _ _ h in All-cons (λ q. meets r q ≡ false) q rs p.0 (none_meets r rs p.1)

pub all_apart : (rs : List Relocation) → share_bytes rs ≡ false → AreApart rs
unfolding share_bytes
all_apart [] h = λ i j d l m. absurd (omega arith)
all_apart (r ∷ rs) h =
    let p = or_parts _ _ h in
    AllPairs-cons (λ (r q : Relocation). meets r q ≡ false) r rs (none_meets r rs p.0) (all_apart rs p.1)

none_in_nobits : (size : ℕ) (kind : SectionKind) (rs : List Relocation) → list_any (is_outside kind size) rs ≡ false
    → kind ≡ Nobits → rs ≡ []
none_in_nobits size kind [] h e = refl
none_in_nobits size kind (r ∷ rs) h e = absurd (true≢false (ap (λ k. is_outside k size r) (sym e) ∙ (or_parts _ _ h).0))

none_mapped : (p : Section → Bool) (ss : List LinkedSection) → list_any p (map section_of ss) ≡ false
    → All (λ s. p (section_of s) ≡ false) ss
none_mapped p [] h = All-nil (λ s. p (section_of s) ≡ false)
none_mapped p (s ∷ ss) h = let q = or_parts _ _ h in
    All-cons (λ s. p (section_of s) ≡ false) s ss q.0 (none_mapped p ss q.1)

one_owns : (bytes : List ℕ) (n : ℕ) (h : SectionHeader) (o : Option SectionKind)
    → All (λ s. s.relocations ≡ relocations_at bytes s.number.0) (option_to_list (linked_section bytes n h o))
one_owns bytes n h None = All-nil (λ (s : LinkedSection). s.relocations ≡ relocations_at bytes s.number.0)
one_owns bytes n h (Some kind) =
    All-cons (λ (s : LinkedSection). s.relocations ≡ relocations_at bytes s.number.0) _ [] refl
    (All-nil (λ (s : LinkedSection). s.relocations ≡ relocations_at bytes s.number.0))

each_owns : (bytes : List ℕ) (n : ℕ)
    → All (λ s. s.relocations ≡ relocations_at bytes s.number.0) (sections_below bytes n)
each_owns bytes zero = All-nil (λ (s : LinkedSection). s.relocations ≡ relocations_at bytes s.number.0)
each_owns bytes (suc n) = All-append (λ (s : LinkedSection). s.relocations ≡ relocations_at bytes s.number.0) _ _
    (each_owns bytes n) (one_owns bytes n (header bytes n) (linked_kind (header bytes n)))

own_relocations : (bytes : List ℕ) → All (λ s. s.relocations ≡ relocations_at bytes s.number.0) (sections_of bytes)
unfolding sections_of
own_relocations bytes = each_owns bytes (e_shnum bytes)

limits_at : (bytes : List ℕ) (n : ℕ) (s : LinkedSection) → s.relocations ≡ relocations_at bytes s.number.0
    → has_strange_symbol bytes n (section_of s) ≡ false → has_field_outside bytes (section_of s) ≡ false
    → has_shared_bytes bytes (section_of s) ≡ false → HasRelocationsOfProfile n s
limits_at bytes n s e a b c = record {
  each = subst (λ rs. All (IsRelocationOfProfile n s.size) rs) (sym e)
      (all_inside n s.size s.kind (relocation_entries bytes s.number.0) a b);
  apart = subst AreApart (sym e) (all_apart (relocations_at bytes s.number.0) c);
  none = λ k. e ∙ none_in_nobits s.size s.kind (relocations_at bytes s.number.0) b k;
}

-- the relocations of each linked section of an object are within the profile
pub relocation_limits_of : (bytes : List ℕ) → object_refusal bytes ≡ None
    → All (HasRelocationsOfProfile (length (symbols_of bytes))) (sections_of bytes)
unfolding holds has_wrong_relocation_section has_wrong_bounds has_overlap
relocation_limits_of bytes h =
    let p = accepted_parts bytes h in
    let a = none_mapped (has_strange_symbol bytes (length (symbols_of bytes))) (sections_of bytes)
    (or_parts _ _ p.relocations).1 in
    let b = none_mapped (has_field_outside bytes) (sections_of bytes) p.bounds in
    let c = none_mapped (has_shared_bytes bytes) (sections_of bytes) p.overlap in
    let o = own_relocations bytes in
    λ k d l. limits_at bytes (length (symbols_of bytes)) (get_or (sections_of bytes) k d) (o k d l) (a k d l)
    (b k d l) (c k d l)
