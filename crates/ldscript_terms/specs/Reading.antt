-- What a reader of expressions finds at the front of tokens, and that there is one tree at most.
use Rattle.std.specs.Prelude.{◌≡◌, ℕ, ◌<◌, List, [], ◌∷◌, length, Option, Some, None, Result, IfOk}
use Rattle.ldscript_tokens.specs.Tokens as token
use Rattle.ldscript_tokens.specs.Tokens.{Token, Lexeme}
use Rattle.ldscript_tokens.specs.declared.token.Mark.TheVariants.{Question}
use Rattle.ldscript_terms.specs.declared.operator.BinaryOperator.{BinaryOperator}
use Rattle.ldscript_terms.specs.Operators.{binary_of, level_of}
use Rattle.ldscript_terms.specs.Expressions.{Expr}
use Rattle.ldscript_terms.specs.Grammar.{Level, Primary, Arguments, Within, Whole, Spells, Terminal, Sign, terminal_of}

-- an operator, if there is one, binds more loosely than this level
abbrev pub IsLooser : ℕ → Option BinaryOperator → Type 0
IsLooser n None = Unit {0}
IsLooser n (Some op) = n < level_of op

abbrev pub IsNoOperator : Option BinaryOperator → Type 0
IsNoOperator None = Unit {0}
IsNoOperator (Some op) = ⊥

-- a terminal that can't go on an expression of this level
abbrev pub StopsAt : Level → Terminal → Type 0
StopsAt (Within n) (Sign mark) = IsLooser n (binary_of mark)
StopsAt Whole (Sign Question) = ⊥
StopsAt Whole (Sign mark) = IsNoOperator (binary_of mark)
StopsAt l t = Unit {0}

-- what follows can't go on an expression of this level
abbrev pub Stops : Level → List Lexeme → Type 0
Stops Primary ts = Unit {0}
Stops Arguments ts = Unit {0}
Stops l [] = Unit {0}
Stops l (x ∷ xs) = StopsAt l (terminal_of x.token)

-- this expression and no other
pub record Reading (l : Level) (ts : List Lexeme) (e : Expr) (rest : List Lexeme) : Type 0 where
  pub spells : Spells l e ts rest
  pub only : (f : Expr) (more : List Lexeme) → Spells l f ts more → Stops l more → (f ≡ e) × (more ≡ rest)
  pub shorter : length rest < length ts

-- no expression
abbrev pub NoReading : Level → List Lexeme → Type 0
NoReading l ts = (f : Expr) (more : List Lexeme) → Spells l f ts more → Stops l more → ⊥

-- what stands at the front of the tokens, if an expression does
abbrev pub Finds : {X : Type 0} → Level → List Lexeme → (X → Expr) → (X → List Lexeme) → Option X → Type 0
Finds l ts expr rest (Some x) = Reading l ts (expr x) (rest x)
Finds l ts expr rest None = NoReading l ts

-- what a reader of this level gives; out of memory says nothing of the tokens
abbrev pub Reads : {X E : Type 0} → Level → List Lexeme → (X → Expr) → (X → List Lexeme) → Result (Option X) E → Type 0
Reads l ts expr rest r = IfOk r (λ found. Finds l ts expr rest found)

-- no tokens have two trees
abbrev pub OneTree : List Lexeme → Type 0
OneTree ts = (e f : Expr) (rest more : List Lexeme) → Spells Whole e ts rest → Spells Whole f ts more → Stops Whole rest
    → Stops Whole more → (e ≡ f) × (rest ≡ more)

-- each tree whose rest can't go on it is the only one
abbrev pub OneReading : List Lexeme → Type 0
OneReading ts = (e : Expr) (rest : List Lexeme) → Spells Whole e ts rest → Stops Whole rest → Reading Whole ts e rest

-- no expression goes on at this token
abbrev pub EndsAt : Token → Type 0
EndsAt t = (line : ℕ) (rest : List Lexeme) → Stops Whole (token.lexeme t line ∷ rest)
