-- The list of section headers has as many as the ELF header says, each at its number.
use Rattle.std.proofs.Common.{◌≡◌, ℕ, zero, suc, ◌+◌, ◌*◌, ◌<◌, ◌≤◌, List, [], ◌∷◌, ◌++◌, get_or, length, refl, ap, sym}
use Rattle.std.proofs.Common.{◌∙◌, ⊎_elim, arith}
use Rattle.std.proofs.lemmas.Bool.{cases_lt}
use Rattle.std.proofs.lemmas.List.{length-append, get_or_append_left, get_or_push}
use Rattle.elfobj_file.specs.ElfHeader.{e_shoff, e_shnum}
use Rattle.elfobj_file.specs.SectionHeaders.{header_at, header, headers_below, headers}
use Rattle.elfobj_file.specs.declared.section_header.SectionHeader.{SectionHeader}

-- a header past the first is read from the table
pub header_read : (bytes : List ℕ) (k : ℕ) → 1 ≤ k → header bytes k ≡ header_at bytes (e_shoff bytes + 64 * k)
unfolding header
header_read bytes zero h = absurd (omega arith)
header_read bytes (suc k) h = refl

length_below : (bytes : List ℕ) (n : ℕ) → length (headers_below bytes n) ≡ n
length_below bytes zero = refl
length_below bytes (suc n) = let h = length_below bytes n in
    rw (length-append (headers_below bytes n) (header bytes n ∷ [])) (omega arith)

header_below : (bytes : List ℕ) (n k : ℕ) (d : SectionHeader) → k < n
    → get_or (headers_below bytes n) k d ≡ header bytes k
header_below bytes zero k d h = absurd (omega arith)
header_below bytes (suc n) k d h = ⊎_elim
    (λ l. let long : k < length (headers_below bytes n) = omega (arith, length_below bytes n) in
    get_or_append_left (headers_below bytes n) (header bytes n ∷ []) d k long ∙ header_below bytes n k d l)
    (λ l. let e : k ≡ n = omega arith in
    ap (λ i. get_or (headers_below bytes n ++ header bytes n ∷ []) i d) e
    ∙ get_or_push (headers_below bytes n) (header bytes n) d n (length_below bytes n)
    ∙ ap (λ i. header bytes i) (sym e))
    (cases_lt k n)

pub headers_length : (bytes : List ℕ) → length (headers bytes) ≡ e_shnum bytes
unfolding headers
headers_length bytes = length_below bytes (e_shnum bytes)

-- the k-th of the headers
pub headers_at : (bytes : List ℕ) (k : ℕ) (d : SectionHeader) → k < e_shnum bytes
    → get_or (headers bytes) k d ≡ header bytes k
unfolding headers
headers_at bytes k d h = header_below bytes (e_shnum bytes) k d h

pub count_of : (bytes : List ℕ) (hs : List SectionHeader) → hs ≡ headers bytes → length hs ≡ e_shnum bytes
count_of bytes hs e = ap length e ∙ headers_length bytes

pub header_of : (bytes : List ℕ) (hs : List SectionHeader) (k : ℕ) (d : SectionHeader) → hs ≡ headers bytes
    → k < length hs → get_or hs k d ≡ header bytes k
header_of bytes hs k d e h = ap (λ xs. get_or xs k d) e ∙ headers_at bytes k d (omega (arith, count_of bytes hs e))
