-- The limits on the tokens of a script, and the refusals of a text.
use Rattle.std.specs.Prelude.{◌≡◌, ℕ, ◌<◌, ◌≤◌, ◌^◌, List, [], ◌∷◌, ◌++◌, length, map, All, count_by, Bool, true, false}
use Rattle.std.specs.Prelude.{◌⊎◌}
use Rattle.std.specs.List.{list_any}
use Rattle.ldscript_tokens.specs.Tokens.{Token, Lexeme, Name, Number, Word, Punctuation}
use Rattle.ldscript_tokens.specs.Numbers.{number_value}
use Rattle.ldscript_tokens.specs.Modes.{IsCut, at_start, mode_of, state_after}
use Rattle.ldscript_tokens.specs.declared.token.Mode.{Mode}
use Rattle.ldscript_tokens.specs.declared.token.Mode.TheVariants.{Expression, Pattern}
use Rattle.ldscript_tokens.specs.declared.token.Mark.{Mark}
use Rattle.ldscript_tokens.specs.declared.token.Mark.TheVariants.{OpenParenthesis, OpenBrace, CloseBrace, Semicolon}
use Rattle.ldscript_tokens.specs.declared.token.Mark.TheVariants.{Not}
use Rattle.ldscript_tokens.specs.declared.token.Mark.TheVariants.{Minus, Complement, Star, Slash, Percent, Plus}
use Rattle.ldscript_tokens.specs.declared.token.Mark.TheVariants.{ShiftLeft}
use Rattle.ldscript_tokens.specs.declared.token.Mark.TheVariants.{ShiftRight, Less, LessOrEqual, Greater}
use Rattle.ldscript_tokens.specs.declared.token.Mark.TheVariants.{GreaterOrEqual}
use Rattle.ldscript_tokens.specs.declared.token.Mark.TheVariants.{Equal, NotEqual, And, AndAnd, Or, OrOr, Question}
use Rattle.ldscript_tokens.specs.declared.token.ExpressionStretch.{ExpressionStretch}
use Rattle.ldscript_tokens.specs.declared.token.ExpressionStretch.TheVariants.{Awaited}
use Rattle.ldscript_tokens.specs.declared.token.LexState.{LexState}
use Rattle.ldscript_tokens.specs.declared.refusal.TokenRefusal.{TokenRefusal}
use Rattle.ldscript_tokens.specs.declared.refusal.TokenRefusal.TheVariants.{Limit, NotAToken, NoMemory}

-- a NUMBER is below 2^64 with its suffix, a NAME or WORD has at most 255 bytes
abbrev pub HasShortSpelling : Token → Type 0
HasShortSpelling (Number spelled) = number_value spelled < 2 ^ 64
HasShortSpelling (Name spelled) = length spelled ≤ 255
HasShortSpelling (Word spelled) = length spelled ≤ 255
HasShortSpelling _ = Unit {0}

abbrev pub is_open_brace : Token → Bool
is_open_brace (Punctuation OpenBrace) = true
is_open_brace _ = false

-- a token and the mode in which it counts
pub record ModedToken : Type 0 where
  pub token : Token
  pub mode : Mode

-- the `(` that begins a stretch belongs to it, and so counts as one of expression mode
abbrev pub counted_mode : LexState → Token → Mode
counted_mode state token = mode_in (mode_of state) state.stretch token where
  mode_in : Mode → ExpressionStretch → Token → Mode
  mode_in mode Awaited (Punctuation OpenParenthesis) = Expression
  mode_in mode stretch token = mode

-- tokens that stand from a place on, each with the mode in which it counts
abbrev pub moded : LexState → List Token → List ModedToken
moded state [] = []
moded state (token ∷ tokens) =
    record { token = token; mode = counted_mode state token } ∷ moded (state_after state token) tokens

-- what no run goes through: a token of pattern mode, `;`, `{` and `}`
abbrev pub is_break : Mode → Token → Bool
is_break Pattern token = true
is_break Expression (Punctuation Semicolon) = true
is_break Expression (Punctuation OpenBrace) = true
is_break Expression (Punctuation CloseBrace) = true
is_break Expression token = false

-- ( ! - ~ * / % + << >> < <= > >= == != & && | || ?
abbrev pub is_sign_mark : Mark → Bool
is_sign_mark OpenParenthesis = true
is_sign_mark Not = true
is_sign_mark Minus = true
is_sign_mark Complement = true
is_sign_mark Star = true
is_sign_mark Slash = true
is_sign_mark Percent = true
is_sign_mark Plus = true
is_sign_mark ShiftLeft = true
is_sign_mark ShiftRight = true
is_sign_mark Less = true
is_sign_mark LessOrEqual = true
is_sign_mark Greater = true
is_sign_mark GreaterOrEqual = true
is_sign_mark Equal = true
is_sign_mark NotEqual = true
is_sign_mark And = true
is_sign_mark AndAnd = true
is_sign_mark Or = true
is_sign_mark OrOr = true
is_sign_mark Question = true
is_sign_mark _ = false

abbrev pub is_sign : Token → Bool
is_sign (Punctuation mark) = is_sign_mark mark
is_sign _ = false

-- each run without a break has at most 64 signs
abbrev pub HasShortRuns : List ModedToken → Type 0
HasShortRuns tokens =
    (before run after : List ModedToken) → tokens ≡ before ++ (run ++ after)
    → list_any (λ token. is_break token.mode token.token) run ≡ false
    → count_by (λ token. is_sign token.token) run ≤ 64

-- the limits on the tokens of a whole text
pub record IsWithinLimits (tokens : List Token) : Type 0 where
  pub spellings : All HasShortSpelling tokens
  pub braces : count_by is_open_brace tokens ≤ 4096
  pub runs : HasShortRuns (moded at_start tokens)

abbrev pub tokens_of : List Lexeme → List Token
tokens_of lexemes = map (λ lexeme. lexeme.token) lexemes

-- the tokens of a script: those of a text of at most 2^20 bytes, within the limits
pub record IsTokens (text : List ℕ) (lexemes : List Lexeme) : Type 0 where
  pub short : length text ≤ 2 ^ 20
  pub cut : IsCut text lexemes
  pub limits : IsWithinLimits (tokens_of lexemes)

-- tokens past a limit
pub record IsPastLimits (text : List ℕ) : Type 0 where
  pub lexemes : List Lexeme
  pub cut : IsCut text lexemes
  pub past : IsWithinLimits (tokens_of lexemes) → ⊥

-- why a text has no tokens of a script; out of memory says nothing of it
abbrev pub IsTokenRefusal : List ℕ → TokenRefusal → Type 0
IsTokenRefusal text Limit = (2 ^ 20 < length text) ⊎ IsPastLimits text
IsTokenRefusal text NotAToken = (length text ≤ 2 ^ 20) × ((lexemes : List Lexeme) → IsCut text lexemes → ⊥)
IsTokenRefusal text (NoMemory _) = Unit {0}
