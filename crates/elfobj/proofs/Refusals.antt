-- The lowest refusal of a file: the first that its header, sections, symbols and relocations give, in this order.
use Rattle.elfobj.proofs.Common.{Bool, List, NoMemory, None, ObjectRefusal, Option, PassesTests, SectionBounds}
use Rattle.elfobj.proofs.Common.{SectionHeader, SectionProfile, Some, ap, e_shstrndx, false, false≢true, file_bytes}
use Rattle.elfobj.proofs.Common.{find, find-append, header, header_refusals, headers, holds, inl, inr}
use Rattle.elfobj.proofs.Common.{is_outside_profile_by, list_any, name_table, object_refusal, option_or, refl}
use Rattle.elfobj.proofs.Common.{relocation_refusals, sym, symbol_refusals, true, ℕ, ⊎_elim, ◌++◌, ◌∙◌, ◌≡◌, ◌⊎◌}
use Rattle.elfobj_file.specs.Refusal.{section_refusals}
use Rattle.elfobj.proofs.Found.{found_is}
use Rattle.growth.specs.Memory.{no_memory}

-- the ELF header is refused
pub refused_by_header : (bytes : List ℕ) (r : ObjectRefusal) → find (holds bytes) header_refusals ≡ Some r
    → object_refusal bytes ≡ Some r
unfolding object_refusal
refused_by_header bytes r h = find-append (holds bytes) header_refusals
    (section_refusals ++ (symbol_refusals ++ relocation_refusals)) ∙ rw h refl

after_sections : (bytes : List ℕ) (o : Option ObjectRefusal) (r : ObjectRefusal)
    → find (holds bytes) section_refusals ≡ Some r
    → option_or (find (holds bytes) section_refusals) o ≡ Some r
after_sections bytes o r h = rw h refl

-- it is not, and the section headers are
pub refused_by_sections : (bytes : List ℕ) (r : ObjectRefusal) → find (holds bytes) header_refusals ≡ None
    → find (holds bytes) section_refusals ≡ Some r → object_refusal bytes ≡ Some r
unfolding object_refusal
refused_by_sections bytes r h k =
    find-append (holds bytes) header_refusals (section_refusals ++ (symbol_refusals ++ relocation_refusals))
    ∙ ap (λ x. option_or x (find (holds bytes) (section_refusals ++ (symbol_refusals ++ relocation_refusals)))) h
    ∙ find-append (holds bytes) section_refusals (symbol_refusals ++ relocation_refusals)
    ∙ after_sections bytes _ r k

sections_pass : (bytes : List ℕ) → PassesTests bytes → find (holds bytes) section_refusals ≡ None
sections_pass bytes t = rw (t.bounds, t.profile) refl

-- neither is: the tables decide
pub refused_by_tables : (bytes : List ℕ) (o : Option ObjectRefusal) → find (holds bytes) header_refusals ≡ None
    → PassesTests bytes → find (holds bytes) (symbol_refusals ++ relocation_refusals) ≡ o
    → object_refusal bytes ≡ o
unfolding object_refusal
refused_by_tables bytes o h t k =
    find-append (holds bytes) header_refusals (section_refusals ++ (symbol_refusals ++ relocation_refusals))
    ∙ ap (λ x. option_or x (find (holds bytes) (section_refusals ++ (symbol_refusals ++ relocation_refusals)))) h
    ∙ find-append (holds bytes) section_refusals (symbol_refusals ++ relocation_refusals)
    ∙ ap (λ x. option_or x (find (holds bytes) (symbol_refusals ++ relocation_refusals))) (sections_pass bytes t)
    ∙ k

-- the symbol table is refused
pub refused_by_symbols : (bytes : List ℕ) (r : ObjectRefusal) → find (holds bytes) symbol_refusals ≡ Some r
    → find (holds bytes) (symbol_refusals ++ relocation_refusals) ≡ Some r
refused_by_symbols bytes r h = find-append (holds bytes) symbol_refusals relocation_refusals
    ∙ ap (λ x. option_or x (find (holds bytes) relocation_refusals)) h

-- it is not: the relocation sections decide
pub refused_by_relocations : (bytes : List ℕ) (o : Option ObjectRefusal) → find (holds bytes) symbol_refusals ≡ None
    → find (holds bytes) relocation_refusals ≡ o
    → find (holds bytes) (symbol_refusals ++ relocation_refusals) ≡ o
refused_by_relocations bytes o h k = find-append (holds bytes) symbol_refusals relocation_refusals
    ∙ ap (λ x. option_or x (find (holds bytes) relocation_refusals)) h ∙ k

-- the same of calls that may also want memory
pub symbols_told : (bytes : List ℕ) (e : ObjectRefusal)
    → (e ≡ NoMemory no_memory) ⊎ (find (holds bytes) symbol_refusals ≡ Some e)
    → (e ≡ NoMemory no_memory) ⊎ (find (holds bytes) (symbol_refusals ++ relocation_refusals) ≡ Some e)
symbols_told bytes e h = ⊎_elim (λ a. inl a) (λ a. inr (refused_by_symbols bytes e a)) h

pub relocations_told : (bytes : List ℕ) (e : ObjectRefusal) → find (holds bytes) symbol_refusals ≡ None
    → (e ≡ NoMemory no_memory) ⊎ (find (holds bytes) relocation_refusals ≡ Some e)
    → (e ≡ NoMemory no_memory) ⊎ (find (holds bytes) (symbol_refusals ++ relocation_refusals) ≡ Some e)
relocations_told bytes e n h = ⊎_elim (λ a. inl a) (λ a. inr (refused_by_relocations bytes (Some e) n a)) h

pub tables_told : (bytes : List ℕ) (e : ObjectRefusal) → find (holds bytes) header_refusals ≡ None → PassesTests bytes
    → (e ≡ NoMemory no_memory) ⊎ (find (holds bytes) (symbol_refusals ++ relocation_refusals) ≡ Some e)
    → (e ≡ NoMemory no_memory) ⊎ (object_refusal bytes ≡ Some e)
tables_told bytes e n t h = ⊎_elim (λ a. inl a) (λ a. inr (refused_by_tables bytes (Some e) n t a)) h

-- out of memory is no refusal of the bytes
pub no_memory_found : (bytes : List ℕ) (rs : List ObjectRefusal) (r : ObjectRefusal) → find (holds bytes) rs ≡ Some r
    → r ≡ NoMemory no_memory → find (holds bytes) rs ≡ None
unfolding holds
no_memory_found bytes rs r h e = absurd (false≢true
    (found_is (holds bytes) rs (NoMemory no_memory) (h ∙ ap (λ x. Some x) e)))

-- the refusals that section headers give
pub bounds_refused : (bytes : List ℕ) → holds bytes SectionBounds ≡ true
    → find (holds bytes) section_refusals ≡ Some SectionBounds
bounds_refused bytes h = rw h refl

pub profile_refused : (bytes : List ℕ) → holds bytes SectionBounds ≡ false → holds bytes SectionProfile ≡ true
    → find (holds bytes) section_refusals ≡ Some SectionProfile
profile_refused bytes h k = rw (h, k) refl

pub profile_told : (bytes file : List ℕ) (names : SectionHeader) (hs : List SectionHeader) (r b : Bool) → file ≡ bytes
    → names ≡ header bytes (e_shstrndx bytes) → hs ≡ headers bytes
    → r ≡ list_any (is_outside_profile_by (file_bytes file names)) hs → r ≡ b
    → holds bytes SectionProfile ≡ b
unfolding holds name_table
profile_told bytes file names hs r b e f g h k =
    ap (λ x. list_any (is_outside_profile_by (file_bytes bytes x)) (headers bytes)) (sym f)
    ∙ ap (λ x. list_any (is_outside_profile_by (file_bytes x names)) (headers bytes)) (sym e)
    ∙ ap (λ x. list_any (is_outside_profile_by (file_bytes file names)) x) (sym g)
    ∙ sym h ∙ k

-- the same of a call that may also want memory
pub sections_told : (bytes : List ℕ) (e : ObjectRefusal) → find (holds bytes) header_refusals ≡ None
    → holds bytes SectionBounds ≡ false
    → (e ≡ NoMemory no_memory) ⊎ ((holds bytes SectionProfile ≡ true) × (e ≡ SectionProfile))
    → (e ≡ NoMemory no_memory) ⊎ (object_refusal bytes ≡ Some e)
sections_told bytes e n b h = ⊎_elim (λ a. inl a)
    (λ a. inr (refused_by_sections bytes SectionProfile n (profile_refused bytes b a.0)
    ∙ ap (λ x. Some x) (sym a.1))) h
