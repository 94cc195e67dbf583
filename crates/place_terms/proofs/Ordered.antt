-- The output sections of a script in which nothing is named twice stand under their numbers.
use Rattle.place_terms.proofs.Common.{Each, EachLater, IsOutput, IsSound, List, OutputSection, Some, Statement, [], ap}
use Rattle.place_terms.proofs.Common.{arith, bytes_eq, false, other_name, section_from, section_number, sections_differ}
use Rattle.place_terms.proofs.Common.{slice_get, suc, sym, zero, ℕ, ⊤, ◌+◌, ◌∙◌, ◌∷◌, ◌≡◌, ◌≢◌}
use Rattle.ldscript.specs.statements.Numbering.{OutputSectionAt, output_sections}
use Rattle.ldmodel_laws.proofs.Mentioned.{section_names}
use Rattle.place_terms.proofs.Lists.{is_same_name}

-- none of these has the name
abbrev Unnamed : List ℕ → List OutputSectionAt → Type 0
Unnamed n [] = ⊤
Unnamed n (s ∷ ss) = (bytes_eq s.section.name n ≡ false) × Unnamed n ss

unnamed : (n : List ℕ) (ss : List OutputSectionAt) → Each (λ k. n ≢ k) (section_names ss) → Unnamed n ss
unnamed n [] h = tt
unnamed n (s ∷ ss) h = (other_name s.section.name n (λ e. h.0 (sym e)), unnamed n ss h.1)

-- no later one has the same name
abbrev Once : List OutputSectionAt → Type 0
Once [] = ⊤
Once (s ∷ ss) = Unnamed s.section.name ss × Once ss

all_once : (ss : List OutputSectionAt) → EachLater (λ n k. n ≢ k) (section_names ss) → Once ss
all_once [] h = tt
all_once (s ∷ ss) h = (unnamed s.section.name ss h.0, all_once ss h.1)

unnamed_at : (n : List ℕ) (ss : List OutputSectionAt) (k : ℕ) (x : OutputSectionAt) → Unnamed n ss
    → slice_get ss k ≡ Some x → bytes_eq x.section.name n ≡ false
unnamed_at n [] k x u e = absurd (let no : ⊥ = cc in no)
unnamed_at n (s ∷ ss) zero x u e =
    let same : s ≡ x = cc in
    sym (ap (λ (y : OutputSectionAt). bytes_eq y.section.name n) same) ∙ u.0
unnamed_at n (s ∷ ss) (suc k) x u e = unnamed_at n ss k x u.1 e

number_is : (from : ℕ) (ss : List OutputSectionAt) (k : ℕ) (x : OutputSectionAt) → Once ss → slice_get ss k ≡ Some x
    → section_from from ss x.section.name ≡ Some (from + k)
number_is from [] k x o e = absurd (let no : ⊥ = cc in no)
number_is from (s ∷ ss) zero x o e =
    let here : from ≡ from + 0 = omega arith in
    let same : s ≡ x = cc in
    let name = ap (λ (y : OutputSectionAt). y.section.name) (sym same) in
    rw (is_same_name x.section.name s.section.name name) (ap Some here)
number_is from (s ∷ ss) (suc k) x o e =
    let more_is : suc from + k ≡ from + suc k = omega arith in
    rw (unnamed_at s.section.name ss k x o.0 e) (number_is (suc from) ss k x o.1 e ∙ ap Some more_is)

-- an output section stands under its number
pub output_number : (script : List Statement) (k : ℕ) (output : OutputSection) → IsSound script
    → IsOutput script k output → section_number script output.name ≡ Some k
output_number script k output sound i =
    let from_none : 0 + k ≡ k = omega arith in
    number_is 0 (output_sections script) k (record { line = i.line; section = output })
    (all_once (output_sections script) (sections_differ script sound)) i.is ∙ ap Some from_none
