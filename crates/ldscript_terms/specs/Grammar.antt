-- The grammar of a script's expressions, rule by rule, tightest first.
--
-- primary   = NUMBER | "." | NAME | "(" whole ")" | of_region "(" NAME ")" | of_section "(" NAME ")" | ALIGN arguments
--   of_region = ORIGIN | LENGTH
--   of_section = ADDR | LOADADDR | SIZEOF
--   arguments = "(" whole ")" | "(" whole "," whole ")"
--   within 0  = primary | unary operator, within 0
--   within n  = within n-1 | within n, operator of level n, within n-1          for n from 1 to 9
--   whole     = within 9 | within 9 "?" whole ":" whole
use Rattle.std.specs.Prelude.{◌≡◌, ℕ, suc, ◌^◌, ◌<◌, List, ◌∷◌, Some, if◌then◌else◌, codes, bytes_eq}
use Rattle.ldscript_tokens.specs.Tokens as token
use Rattle.ldscript_tokens.specs.Tokens.{Token, Lexeme}
use Rattle.ldscript_tokens.specs.Numbers.{number_value}
use Rattle.ldscript_tokens.specs.Words.{is_free_name}
use Rattle.ldscript_tokens.specs.declared.token.Mark.{Mark}
use Rattle.ldscript_tokens.specs.declared.token.Mark.TheVariants.{OpenParenthesis, CloseParenthesis, Comma, Question}
use Rattle.ldscript_tokens.specs.declared.token.Mark.TheVariants.{Colon}
use Rattle.ldscript_terms.specs.declared.operator.UnaryOperator.{UnaryOperator}
use Rattle.ldscript_terms.specs.declared.operator.BinaryOperator.{BinaryOperator}
use Rattle.ldscript_terms.specs.declared.expression.RegionQuery.{RegionQuery}
use Rattle.ldscript_terms.specs.declared.expression.RegionQuery.TheVariants.{Origin, Length}
use Rattle.ldscript_terms.specs.declared.expression.SectionQuery.{SectionQuery}
use Rattle.ldscript_terms.specs.declared.expression.SectionQuery.TheVariants.{Address, LoadAddress, Size}
use Rattle.ldscript_terms.specs.Operators.{unary_of, binary_of, level_of}
use Rattle.ldscript_terms.specs.Expressions.{Expr, Number, Dot, Name, Unary, Binary, Choice, OfRegion, OfSection}
use Rattle.ldscript_terms.specs.Expressions.{AlignDot}
use Rattle.ldscript_terms.specs.Expressions.{Align}

-- what a name is to an expression: `.`, a word that asks something of a memory region or of an output section, ALIGN, a
-- NAME, or another reserved word
pub data Word : Type 0 where
  Point : Word
  AsksRegion : (query : RegionQuery) → Word
  AsksSection : (query : SectionQuery) → Word
  Aligns : Word
  Free : (name : List ℕ) → Word
  Reserved : Word

-- the terminals of the grammar
pub data Terminal : Type 0 where
  Numeral : (value : ℕ) → Terminal
  Worded : (word : Word) → Terminal
  Sign : (mark : Mark) → Terminal
  Other : Terminal

unfoldable pub word_of : List ℕ → Word
word_of name =
    if bytes_eq name (codes ".") then Point
    else (if bytes_eq name (codes "ORIGIN") then AsksRegion Origin
    else (if bytes_eq name (codes "LENGTH") then AsksRegion Length
    else (if bytes_eq name (codes "ADDR") then AsksSection Address
    else (if bytes_eq name (codes "LOADADDR") then AsksSection LoadAddress
    else (if bytes_eq name (codes "SIZEOF") then AsksSection Size
    else (if bytes_eq name (codes "ALIGN") then Aligns
    else (if is_free_name name then Free name else Reserved)))))))

abbrev pub terminal_of : Token → Terminal
terminal_of (token.Name name) = Worded (word_of name)
terminal_of (token.Number spelled) = Numeral (number_value spelled)
terminal_of (token.Punctuation mark) = Sign mark
terminal_of _ = Other

-- the tokens begin with a terminal, and these follow
pub record Begins (lexemes : List Lexeme) (terminal : Terminal) (rest : List Lexeme) : Type 0 where
  pub first : Lexeme
  pub split : lexemes ≡ first ∷ rest
  pub kind : terminal_of first.token ≡ terminal

-- the tokens begin with an operator that stands before its operand
pub record BeginsUnary (lexemes : List Lexeme) (operator : UnaryOperator) (rest : List Lexeme) : Type 0 where
  pub mark : Mark
  pub begins : Begins lexemes (Sign mark) rest
  pub spells : unary_of mark ≡ Some operator

-- the tokens begin with an operator of this level
pub record BeginsBinary (level : ℕ) (lexemes : List Lexeme) (operator : BinaryOperator)
    (rest : List Lexeme) : Type 0 where
  pub mark : Mark
  pub begins : Begins lexemes (Sign mark) rest
  pub spells : binary_of mark ≡ Some operator
  pub binds : level_of operator ≡ level

-- the tokens begin with a NAME in parentheses
pub record BeginsNamed (lexemes : List Lexeme) (name : List ℕ) (rest : List Lexeme) : Type 0 where
  pub inner : List Lexeme
  pub outer : List Lexeme
  pub opens : Begins lexemes (Sign OpenParenthesis) inner
  pub names : Begins inner (Worded (Free name)) outer
  pub closes : Begins outer (Sign CloseParenthesis) rest

-- Within 0 is an expression of unary operators alone, Within n one of operators of levels up to n
pub data Level : Type 0 where
  Primary : Level
  Arguments : Level
  Within : (level : ℕ) → Level
  Whole : Level

-- Spells l e ts rest: e stands at the front of ts, and rest is what follows it. A line for each rule
pub data Spells : Level → Expr → List Lexeme → List Lexeme → Type 0 where
  number : {value : ℕ} {ts rest : List Lexeme} → Begins ts (Numeral value) rest → value < 2 ^ 64
      → Spells Primary (Number value) ts rest
  dot : {ts rest : List Lexeme} → Begins ts (Worded Point) rest → Spells Primary Dot ts rest
  name : {name : List ℕ} {ts rest : List Lexeme} → Begins ts (Worded (Free name)) rest
      → Spells Primary (Name name) ts rest
  group : {expression : Expr} {ts us vs rest : List Lexeme} → Begins ts (Sign OpenParenthesis) us
      → Spells Whole expression us vs → Begins vs (Sign CloseParenthesis) rest → Spells Primary expression ts rest
  of_region : {query : RegionQuery} {name : List ℕ} {ts us rest : List Lexeme}
      → Begins ts (Worded (AsksRegion query)) us → BeginsNamed us name rest
      → Spells Primary (OfRegion query name) ts rest
  of_section : {query : SectionQuery} {name : List ℕ} {ts us rest : List Lexeme}
      → Begins ts (Worded (AsksSection query)) us → BeginsNamed us name rest
      → Spells Primary (OfSection query name) ts rest
  align : {expression : Expr} {ts us rest : List Lexeme} → Begins ts (Worded Aligns) us
      → Spells Arguments expression us rest → Spells Primary expression ts rest
  one_argument : {a : Expr} {ts us vs rest : List Lexeme} → Begins ts (Sign OpenParenthesis) us → Spells Whole a us vs
      → Begins vs (Sign CloseParenthesis) rest → Spells Arguments (AlignDot a) ts rest
  two_arguments : {a b : Expr} {ts us vs ws xs rest : List Lexeme} → Begins ts (Sign OpenParenthesis) us
      → Spells Whole a us vs → Begins vs (Sign Comma) ws → Spells Whole b ws xs → Begins xs (Sign CloseParenthesis) rest
      → Spells Arguments (Align a b) ts rest
  primary : {expression : Expr} {ts rest : List Lexeme} → Spells Primary expression ts rest
      → Spells (Within 0) expression ts rest
  unary : {operator : UnaryOperator} {a : Expr} {ts us rest : List Lexeme} → BeginsUnary ts operator us
      → Spells (Within 0) a us rest → Spells (Within 0) (Unary operator a) ts rest
  operand : {n : ℕ} {expression : Expr} {ts rest : List Lexeme} → Spells (Within n) expression ts rest
      → Spells (Within (suc n)) expression ts rest
  binary : {n : ℕ} {operator : BinaryOperator} {a b : Expr} {ts us vs rest : List Lexeme}
      → Spells (Within (suc n)) a ts us → BeginsBinary (suc n) us operator vs → Spells (Within n) b vs rest
      → Spells (Within (suc n)) (Binary operator a b) ts rest
  operators : {expression : Expr} {ts rest : List Lexeme} → Spells (Within 9) expression ts rest
      → Spells Whole expression ts rest
  choice : {test a b : Expr} {ts us vs ws xs rest : List Lexeme} → Spells (Within 9) test ts us
      → Begins us (Sign Question) vs → Spells Whole a vs ws → Begins ws (Sign Colon) xs → Spells Whole b xs rest
      → Spells Whole (Choice test a b) ts rest
