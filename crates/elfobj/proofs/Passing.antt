-- A test that no header passes fails at each; so the table of section names lies in the file.
use Rattle.elfobj.proofs.Common.{Bool, List, SectionHeader, ap, arith, both_ways, e_shnum, e_shstrndx, false}
use Rattle.elfobj.proofs.Common.{false_from_ne_true, header, headers, headers_at, headers_length, is_out_of_bounds}
use Rattle.elfobj.proofs.Common.{length, list_any, list_any_at, ℕ, ◌+◌, ◌<◌, ◌∙◌, ◌≡◌, ◌≤◌}
use Rattle.elfobj.proofs.Found.{strings_type}

-- a test that no header passes fails at each
pub none_at : (p : SectionHeader → Bool) (bytes : List ℕ) (k : ℕ) → list_any p (headers bytes) ≡ false
    → k < e_shnum bytes → p (header bytes k) ≡ false
none_at p bytes k h l = false_from_ne_true _
    (λ e. both_ways _ h (list_any_at p (headers bytes) k (header bytes k) (omega (arith, headers_length bytes))
    (ap p (headers_at bytes k (header bytes k) l) ∙ e)))

-- so the table of section names lies inside the file
pub names_within : (bytes : List ℕ) → e_shstrndx bytes < e_shnum bytes → (header bytes (e_shstrndx bytes)).sh_type ≡ 3
    → list_any (is_out_of_bounds (length bytes)) (headers bytes) ≡ false
    → (header bytes (e_shstrndx bytes)).sh_offset + (header bytes (e_shstrndx bytes)).sh_size ≤ length bytes
names_within bytes l t h = (strings_type (length bytes) (header bytes (e_shstrndx bytes)) t
    (none_at (is_out_of_bounds (length bytes)) bytes (e_shstrndx bytes) h l)).end
