-- The script of a text, and why a text is none.
use Rattle.std.specs.Prelude.{◌≡◌, ℕ, List, true, false}
use Rattle.ldscript_tokens.specs.Tokens.{Lexeme}
use Rattle.ldscript_tokens.specs.Limits.{IsTokens, IsTokenRefusal}
use Rattle.ldscript_tokens.specs.declared.refusal.TokenRefusal.TheVariants as tokens
use Rattle.ldscript.specs.Grammar.{script}
use Rattle.ldscript_statements.specs.Mentions.{HasClash}
use Rattle.ldscript_statements.specs.Dots.{has_misplaced_dot}
use Rattle.ldscript_statements.specs.declared.statement.Statement.{Statement}
use Rattle.ldscript.specs.declared.refusal.ScriptRefusal.{ScriptRefusal}
use Rattle.ldscript.specs.declared.refusal.ScriptRefusal.TheVariants.{NotTokens, NotAScript, Repeated, MisplacedDot}
use Rattle.ldscript.specs.declared.refusal.ScriptRefusal.TheVariants.{Limit, NoMemory}

-- the tokens of the text are those that the tree stands for
pub record IsTree (text : List ℕ) (statements : List Statement) : Type 0 where
  pub lexemes : List Lexeme
  pub tokens : IsTokens text lexemes
  pub spelled : script statements lexemes

-- nothing clashes, and no `.` is misplaced
pub record IsSound (statements : List Statement) : Type 0 where
  pub no_clash : HasClash statements → ⊥
  pub no_misplaced_dot : has_misplaced_dot statements ≡ false

-- a script of the profile
pub record IsScript (text : List ℕ) (statements : List Statement) : Type 0 where
  pub tree : IsTree text statements
  pub no_clash : HasClash statements → ⊥
  pub no_misplaced_dot : has_misplaced_dot statements ≡ false

-- tokens for which no tree stands
pub record IsNoTree (text : List ℕ) : Type 0 where
  pub lexemes : List Lexeme
  pub tokens : IsTokens text lexemes
  pub none : (statements : List Statement) → script statements lexemes → ⊥

-- a tree in which something clashes
pub record IsClashing (text : List ℕ) : Type 0 where
  pub statements : List Statement
  pub tree : IsTree text statements
  pub clash : HasClash statements

-- a tree without a clash in which a `.` is misplaced
pub record IsMisplacing (text : List ℕ) : Type 0 where
  pub statements : List Statement
  pub tree : IsTree text statements
  pub no_clash : HasClash statements → ⊥
  pub misplaced : has_misplaced_dot statements ≡ true

-- the refusal of a text, the first that applies; out of memory says nothing of it
abbrev pub IsRefusal : List ℕ → ScriptRefusal → Type 0
IsRefusal text NotTokens = IsTokenRefusal text tokens.NotAToken
IsRefusal text NotAScript = IsNoTree text
IsRefusal text Repeated = IsClashing text
IsRefusal text MisplacedDot = IsMisplacing text
IsRefusal text Limit = IsTokenRefusal text tokens.Limit
IsRefusal text (NoMemory _) = Unit {0}
