-- What the readers of the parts of a script answer, and the parts that one reader reads at once.
use Rattle.std.specs.Prelude.{◌≡◌, ◌<◌, ◌≤◌, ℕ, List, codes, length, Bool, true, false, Option}
use Rattle.std.specs.Prelude.{Some, None, IfOk, Result}
use Rattle.ldscript_tokens.specs.Tokens.{Lexeme, Discard}
use Rattle.ldscript_tokens.specs.declared.token.Mark.TheVariants.{OpenParenthesis, CloseParenthesis, OpenBrace, Colon}
use Rattle.ldscript_tokens.specs.declared.token.Mark.TheVariants.{Greater}
use Rattle.ldscript_tokens.specs.declared.token.Mark.TheVariants.{Assign}
use Rattle.ldscript_tokens.specs.declared.token.Mode.TheVariants.{Expression, Pattern}
use Rattle.ldscript_terms.specs.Expressions.{Expr}
use Rattle.ldscript_terms.specs.Parts as patterns
use Rattle.ldscript.specs.Steps.{Rule, ◌▸◌, key, mark, optional, pattern, some, token}
use Rattle.ldscript.specs.Grammar.{bare, one, selection, width_word, in_parentheses, alignment, at_address, in_region}
use Rattle.ldscript.specs.Grammar.{at_region, filled, load_in_head, load_in_tail}
use Rattle.ldscript_statements.specs.declared.input.SectionWord.{SectionWord}
use Rattle.ldscript_statements.specs.declared.input.Sort.{Sort}
use Rattle.ldscript.specs.declared.read_section.SectionHead.{SectionHead}
use Rattle.ldscript.specs.declared.read_section.SectionTail.{SectionTail}
use Rattle.ldscript_statements.specs.declared.section.BodyStatement.{BodyStatement}
use Rattle.ldscript_statements.specs.declared.section.OutputSection.{OutputSection}
use Rattle.ldscript_statements.specs.declared.section.Width.{Width}

-- this tree stands here, and takes a token or more
pub record Takes {A : Type 0} (p : A → Rule) (ts : List Lexeme) (x : A) (rest : List Lexeme) : Type 0 where
  pub spells : p x ts rest
  pub shorter : length rest < length ts

-- no tree stands here
abbrev pub NoneAt : {A : Type 0} → (A → Rule) → List Lexeme → Type 0
NoneAt {A} p ts = (y : A) (more : List Lexeme) → p y ts more → ⊥

abbrev pub Finds : {A X : Type 0} → (A → Rule) → List Lexeme → (X → A) → (X → List Lexeme) → Option X → Type 0
Finds p ts tree rest (Some x) = Takes p ts (tree x) (rest x)
Finds p ts tree rest None = NoneAt p ts

-- out of memory says nothing of the tokens
abbrev pub Reads : {A X E : Type 0} → (A → Rule) → List Lexeme → (X → A) → (X → List Lexeme)
    → Result (Option X) E → Type 0
Reads p ts tree rest r = IfOk r (λ found. Finds p ts tree rest found)

-- a part without a tree
abbrev pub Follows : {X : Type 0} → Rule → List Lexeme → (X → List Lexeme) → Option X → Type 0
Follows p ts rest (Some x) = p ts (rest x) × (length (rest x) < length ts)
Follows p ts rest None = (more : List Lexeme) → p ts more → ⊥

-- what stands between the parentheses of an input statement, and the `)` behind it
abbrev pub selected : (Option Sort × List SectionWord) → Rule
selected s = selection s.0 s.1 ▸ mark CloseParenthesis

-- "(" WORD {WORD} ")"
abbrev pub excluded_files : List (List patterns.Part) → Rule
excluded_files ps = mark OpenParenthesis ▸ some pattern ps ▸ mark CloseParenthesis

-- a word of an input statement: with EXCLUDE_FILE before it, or not
abbrev pub word_part : Bool → SectionWord → Rule
word_part true = one
word_part false = bare

-- BYTE | SHORT | LONG | QUAD
abbrev pub width_part : Width → Rule
width_part w = key Pattern (width_word w)

-- data "(" e ")"
abbrev pub data_part : (Width × Expr) → Rule
data_part d = width_part d.0 ▸ in_parentheses d.1

-- [ALIGN "(" e ")"] "{"
abbrev pub opened_part : Option Expr → Rule
opened_part a = optional alignment a ▸ mark OpenBrace

-- [AT "(" e ")"] [ALIGN "(" e ")"] "{"
abbrev pub head_part : SectionHead → Rule
head_part h = optional at_address h.load ▸ opened_part h.alignment

-- this tree stands here, and no other of which what follows stops it
pub record TakesOnly {A : Type 0} (Stop : List Lexeme → Type 0) (p : A → Rule) (ts : List Lexeme) (x : A)
    (rest : List Lexeme) : Type 0 where
  pub spells : p x ts rest
  pub only : (y : A) (more : List Lexeme) → p y ts more → Stop more → (y ≡ x) × (more ≡ rest)
  pub shorter : length rest < length ts

abbrev pub NoneUntil : {A : Type 0} → (List Lexeme → Type 0) → (A → Rule) → List Lexeme → Type 0
NoneUntil {A} Stop p ts = (y : A) (more : List Lexeme) → p y ts more → Stop more → ⊥

abbrev pub FindsOnly : {A X : Type 0} → (List Lexeme → Type 0) → (A → Rule) → List Lexeme → (X → A) → (X → List Lexeme)
    → Option X → Type 0
FindsOnly Stop p ts tree rest (Some x) = TakesOnly Stop p ts (tree x) (rest x)
FindsOnly Stop p ts tree rest None = NoneUntil Stop p ts

abbrev pub ReadsOnly : {A X E : Type 0} → (List Lexeme → Type 0) → (A → Rule) → List Lexeme → (X → A)
    → (X → List Lexeme) → Result (Option X) E → Type 0
ReadsOnly Stop p ts tree rest r = IfOk r (λ found. FindsOnly Stop p ts tree rest found)

-- what can't go on an output section
pub record EndsSection (ts : List Lexeme) : Type 0 where
  pub no_region : (rest : List Lexeme) → mark Greater ts rest → ⊥
  pub no_load : (rest : List Lexeme) → key Expression (codes "AT") ts rest → ⊥
  pub no_fill : (rest : List Lexeme) → mark Assign ts rest → ⊥

-- a part that may stand there or not, with what it begins with
abbrev pub Maybe : {A : Type 0} → Rule → (A → Rule) → List Lexeme → Option A → List Lexeme → Type 0
Maybe f p ts None rest = (ts ≡ rest) × ((us : List Lexeme) → f ts us → ⊥)
Maybe f p ts (Some x) rest = p x ts rest × (length rest < length ts)

-- it begins, and does not go on as it must
abbrev pub Breaks : {A : Type 0} → Rule → (A → Rule) → List Lexeme → Type 0
Breaks f p ts = (us : List Lexeme) × f ts us × NoneAt p ts

abbrev pub FindsMaybe : {A X : Type 0} → Rule → (A → Rule) → List Lexeme → (X → Option A) → (X → List Lexeme)
    → Option X → Type 0
FindsMaybe f p ts tree rest (Some x) = Maybe f p ts (tree x) (rest x)
FindsMaybe f p ts tree rest None = Breaks f p ts

abbrev pub ReadsMaybe : {A X E : Type 0} → Rule → (A → Rule) → List Lexeme → (X → Option A) → (X → List Lexeme)
    → Result (Option X) E → Type 0
ReadsMaybe f p ts tree rest r = IfOk r (λ found. FindsMaybe f p ts tree rest found)

-- [">" NAME] [AT ">" NAME] ["=" fill]
abbrev pub tail_part : SectionTail → Rule
tail_part t = optional in_region t.region ▸ optional at_region t.load ▸ optional filled t.fill

-- an output section of these parts
pub record IsOfParts (s : OutputSection) (n : List ℕ) (a : Option Expr) (h : SectionHead) (b : List BodyStatement)
    (t : SectionTail) : Type 0 where
  pub name : s.name ≡ n
  pub address : s.address ≡ a
  pub in_head : load_in_head s.load ≡ h.load
  pub alignment : s.alignment ≡ h.alignment
  pub body : s.body ≡ b
  pub region : s.region ≡ t.region
  pub in_tail : load_in_tail s.load ≡ t.load
  pub fill : s.fill ≡ t.fill

-- the tail that stands here, and no other of which what follows ends the section
pub record TakesTail (ts : List Lexeme) (t : SectionTail) (rest : List Lexeme) : Type 0 where
  pub spells : tail_part t ts rest
  pub only : (u : SectionTail) (more : List Lexeme) → tail_part u ts more → EndsSection more → (u ≡ t) × (more ≡ rest)
  pub within : length rest ≤ length ts

abbrev pub FindsTail : {X : Type 0} → List Lexeme → (X → SectionTail) → (X → List Lexeme) → Option X → Type 0
FindsTail ts tree rest (Some x) = TakesTail ts (tree x) (rest x)
FindsTail ts tree rest None = NoneUntil EndsSection tail_part ts

abbrev pub ReadsTail : {X E : Type 0} → List Lexeme → (X → SectionTail) → (X → List Lexeme)
    → Result (Option X) E → Type 0
ReadsTail ts tree rest r = IfOk r (λ found. FindsTail ts tree rest found)

-- "/DISCARD/" ":" "{"
abbrev pub discard_head : Rule
discard_head = token Discard ▸ mark Colon ▸ mark OpenBrace
