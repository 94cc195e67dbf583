-- Section headers that are read in one pass, each within the profile.
use Rattle.elfobj.proofs.Common.{Bool, IsFileWithin, IsNameTable, List, None, SectionBounds, SectionHeader, SectionKind}
use Rattle.elfobj.proofs.Common.{SectionProfile, Some, ap, arith, cases_lt, e_shnum, false, file_bytes, header, headers}
use Rattle.elfobj.proofs.Common.{headers_at, headers_length, holds, is_alloc, is_out_of_bounds, is_outside_profile}
use Rattle.elfobj.proofs.Common.{is_outside_profile_by, length, linked_kind, list_any_none, name_table, or_parts, refl}
use Rattle.elfobj.proofs.Common.{subst, sym, true, ℕ, ⊎_elim, ◌&&◌, ◌+◌, ◌<◌, ◌∙◌, ◌≡◌, ◌≤◌}
use Rattle.elfobj.proofs.Passing.{none_at}
use Rattle.elfobj.proofs.Steps.{file_within, linked_parts}

-- a header without SHF_ALLOC
pub not_linked : (h : SectionHeader) → is_alloc h ≡ false → linked_kind h ≡ None
not_linked h e = rw e refl

and_none : (x y z : Bool) → y ≡ false → (x && y && z) ≡ false
and_none true y z e = rw e refl
and_none false y z e = refl

pub not_outside : (bytes : List ℕ) (h : SectionHeader) → is_alloc h ≡ false → is_outside_profile bytes h ≡ false
not_outside bytes h e = and_none _ (is_alloc h) _ e

-- the table of names
pub names_are : (bytes : List ℕ) (names : SectionHeader) → IsNameTable bytes names
    → file_bytes bytes names ≡ name_table bytes
unfolding name_table
names_are bytes names t = ap (file_bytes bytes) t.header

pub right_by : (bytes : List ℕ) (names h : SectionHeader) → IsNameTable bytes names
    → is_outside_profile_by (file_bytes bytes names) h ≡ false → is_outside_profile bytes h ≡ false
right_by bytes names h t e = ap (λ xs. is_outside_profile_by xs h) (sym (names_are bytes names t)) ∙ e

-- the bytes of a linked section of a file whose headers are in bounds
pub linked_within : (bytes : List ℕ) (k : ℕ) (kind : SectionKind) (h : SectionHeader)
    → holds bytes SectionBounds ≡ false → k < e_shnum bytes → h ≡ header bytes k → linked_kind h ≡ Some kind
    → IsFileWithin (length bytes) h kind
unfolding holds
linked_within bytes k kind h b l e f =
    file_within (length bytes) h kind (linked_parts h kind f).1
    (ap (is_out_of_bounds (length bytes)) e
    ∙ none_at (is_out_of_bounds (length bytes)) bytes k (or_parts _ _ b).1 l)

-- what holds of all numbers below k
pub below_more : (P : ℕ → Type 0) (k : ℕ) → P k → ((j : ℕ) → j < k → P j) → (j : ℕ) → j < k + 1 → P j
below_more P k p h j a = ⊎_elim (λ l. h j l) (λ l. let e : k ≡ j = omega arith in subst P e p) (cases_lt j k)

-- no header is outside the profile
pub profile_passes : (bytes : List ℕ) (n : ℕ) → e_shnum bytes ≤ n
    → ((j : ℕ) → j < n → is_outside_profile bytes (header bytes j) ≡ false) → holds bytes SectionProfile ≡ false
unfolding holds
profile_passes bytes n l h =
    list_any_none (is_outside_profile bytes) (headers bytes) (λ k d a.
    let m : k < e_shnum bytes = omega (arith, headers_length bytes) in
    ap (is_outside_profile bytes) (headers_at bytes k d m) ∙ h k (omega arith))
