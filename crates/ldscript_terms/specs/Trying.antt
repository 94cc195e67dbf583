-- What comes of letting the parts at the front of a pattern take a byte of a name each, up to the first `*`, and how
-- the parts of a word follow one another.
use Rattle.std.specs.Prelude.{◌≡◌, ℕ, ◌≤◌, ◌<◌, List, [], ◌∷◌, drop, length}
use Rattle.ldscript_terms.specs.Parts.{Part, AnyRun}
use Rattle.ldscript_terms.specs.Spelling.{SpellsPattern}
use Rattle.ldscript_terms.specs.Matching.{Matches}
use Rattle.ldscript_terms.specs.declared.matching.Tried.{Tried}
use Rattle.ldscript_terms.specs.declared.matching.Tried.TheVariants.{Whole, Star, Missed}

abbrev pub IsSpelled : List ℕ → Type 0
IsSpelled word = (ps : List Part) × SpellsPattern ps word

-- the word has ended, or spells no pattern
abbrev pub EndsHere : List ℕ → Type 0
EndsHere word = (ps : List Part) → SpellsPattern ps word → ps ≡ []

-- the word spells this part and then what the rest of it spells
pub record BeginsWith (word : List ℕ) (p : Part) (rest : List ℕ) : Type 0 where
  pub on : (qs : List Part) → SpellsPattern qs rest → SpellsPattern (p ∷ qs) word
  pub only : (ps : List Part) → SpellsPattern ps word → (qs : List Part) × (ps ≡ p ∷ qs) × SpellsPattern qs rest

-- the parts before some of a pattern's take a byte each of every name that the pattern matches, and did so of this name
pub record Passed (ps qs : List Part) (name left : List ℕ) : Type 0 where
  pub count : ℕ
  pub here : left ≡ drop count name
  pub on : (x : List ℕ) → Matches ps x → Matches qs (drop count x)
  pub back : Matches qs left → Matches ps name

abbrev pub TriedAs : List Part → List ℕ → Tried → Type 0
TriedAs ps name Whole = Matches ps name
TriedAs ps name (Star rest left) = (qs : List Part) × SpellsPattern qs rest.now × Passed ps (AnyRun ∷ qs) name left.now
TriedAs ps name Missed = Matches ps name → ⊥

-- after a `*` less of the word is left, and no more of the name
abbrev pub IsWithin : ℕ → ℕ → Tried → Type 0
IsWithin word name Whole = Unit {0}
IsWithin word name (Star rest left) = (length rest.now < word) × (length left.now ≤ name)
IsWithin word name Missed = Unit {0}
