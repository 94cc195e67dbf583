-- What a pattern keeps of the word that spells it.
use Rattle.std.specs.Prelude.{◌≡◌, ℕ, zero, suc, List, [], ◌∷◌, length, map, drop, Option, Some, None}
use Rattle.ldscript_terms.specs.Parts.{Part, Byte}
use Rattle.ldscript_terms.specs.Spelling.{SpellsPattern}
use Rattle.ldscript_terms.specs.Front.{Front, front}
use Rattle.ldscript_terms.specs.CodeTerms.{exact_name}
use Rattle.ldscript_terms.specs.declared.pattern.Form.{Form}
use Rattle.ldscript_terms.specs.declared.pattern.Form.TheVariants.{Exact, Wild}

-- the part at the front, and those after it
abbrev pub with_rest : Option Front → (ℕ → List Part) → List Part
with_rest None rest = []
with_rest (Some f) rest = f.part ∷ rest f.count

-- the parts that a word spells, one after the other, as long as its length allows
abbrev pub spelled_within : ℕ → List ℕ → List Part
spelled_within zero word = []
spelled_within (suc n) word = with_rest (front word) (λ k. spelled_within n (drop k word))

abbrev pub spelled : List ℕ → List Part
spelled word = spelled_within (length word) word

-- the parts of a pattern: bytes, or what a word spells
abbrev pub parts_in : Form → List Part
parts_in (Exact name) = map (λ b. Byte b) name
parts_in (Wild word) = spelled word

-- a word is kept where it spells a pattern that has not bytes alone
abbrev pub IsForm : Form → Type 0
IsForm (Exact name) = Unit {0}
IsForm (Wild word) = SpellsPattern (spelled word) word × (exact_name (spelled word) ≡ None)
