-- In which mode each token of a script is read, and the cut of a whole text.
use Rattle.std.specs.Prelude.{◌≡◌, ℕ, ◌+◌, ◌-◌, List, [], ◌∷◌, take, drop, count_by, Bool, ◌==◌, if◌then◌else◌, codes}
use Rattle.std.specs.Prelude.{bytes_eq}
use Rattle.std.specs.List.{list_any}
use Rattle.ldscript_tokens.specs.Tokens.{Token, Lexeme, lexeme, Word, Punctuation, End, Blank, Begins, front}
use Rattle.ldscript_tokens.specs.declared.token.Mode.{Mode}
use Rattle.ldscript_tokens.specs.declared.token.Mode.TheVariants.{Expression, Pattern}
use Rattle.ldscript_tokens.specs.declared.token.Mark.TheVariants.{OpenParenthesis, CloseParenthesis, OpenBrace}
use Rattle.ldscript_tokens.specs.declared.token.Mark.TheVariants.{CloseBrace}
use Rattle.ldscript_tokens.specs.declared.token.Mark.TheVariants.{Semicolon, Assign, AddAssign}
use Rattle.ldscript_tokens.specs.declared.token.ExpressionStretch.{ExpressionStretch}
use Rattle.ldscript_tokens.specs.declared.token.ExpressionStretch.TheVariants.{Closed, Awaited, ToSemicolon}
use Rattle.ldscript_tokens.specs.declared.token.ExpressionStretch.TheVariants.{ToParenthesis}
use Rattle.ldscript_tokens.specs.declared.token.LexState.{LexState}

-- pattern mode holds at depth 2 outside stretches
abbrev pub mode_at : ℕ → ExpressionStretch → Mode
mode_at depth Closed = if depth == 2 then Pattern else Expression
mode_at depth Awaited = if depth == 2 then Pattern else Expression
mode_at depth ToSemicolon = Expression
mode_at depth (ToParenthesis n) = Expression

abbrev pub mode_of : LexState → Mode
mode_of state = mode_at state.depth state.stretch

-- the number of `{` less that of `}`, which stops at 0 at each `}`
abbrev pub depth_after : ℕ → Token → ℕ
depth_after depth (Punctuation OpenBrace) = depth + 1
depth_after depth (Punctuation CloseBrace) = depth - 1
depth_after depth _ = depth

-- the words whose parentheses hold an expression
abbrev pub stretch_words : List (List ℕ)
stretch_words = codes "BYTE" ∷ codes "SHORT" ∷ codes "LONG" ∷ codes "QUAD" ∷ codes "PROVIDE" ∷ codes "ASSERT" ∷ []

unfoldable pub is_stretch_word : List ℕ → Bool
is_stretch_word word = list_any (λ listed. bytes_eq listed word) stretch_words

-- after a token read in pattern mode (a `(` that begins a stretch belongs to it, and is the same token in both
-- modes): `=` and `+=` begin a stretch to the next `;`, and so does a `(` right after
-- a word of those to the `)` that matches it
abbrev pub stretch_opened : ExpressionStretch → Token → ExpressionStretch
stretch_opened stretch (Punctuation Assign) = ToSemicolon
stretch_opened stretch (Punctuation AddAssign) = ToSemicolon
stretch_opened Awaited (Punctuation OpenParenthesis) = ToParenthesis 1
stretch_opened stretch (Word word) = if is_stretch_word word then Awaited else Closed
stretch_opened stretch _ = Closed

-- after a token read in expression mode
abbrev pub stretch_closed : ExpressionStretch → Token → ExpressionStretch
stretch_closed ToSemicolon (Punctuation Semicolon) = Closed
stretch_closed ToSemicolon _ = ToSemicolon
stretch_closed (ToParenthesis n) (Punctuation OpenParenthesis) = ToParenthesis (n + 1)
stretch_closed (ToParenthesis n) (Punctuation CloseParenthesis) = if n == 1 then Closed else ToParenthesis (n - 1)
stretch_closed (ToParenthesis n) _ = ToParenthesis n
stretch_closed Closed _ = Closed
stretch_closed Awaited _ = Closed

abbrev pub stretch_after : Mode → ExpressionStretch → Token → ExpressionStretch
stretch_after Expression stretch token = stretch_closed stretch token
stretch_after Pattern stretch token = stretch_opened stretch token

-- where the text stands after a token
unfoldable pub state_after : LexState → Token → LexState
state_after state token = record {
  depth = depth_after state.depth token;
  stretch = stretch_after (mode_of state) state.stretch token;
}

abbrev pub at_start : LexState
at_start = record { depth = 0; stretch = Closed }

abbrev pub line_feeds : List ℕ → ℕ
line_feeds bytes = count_by (λ byte. byte == 10) bytes

-- the line of a byte: one more than the line feeds before it
abbrev pub line_at : List ℕ → ℕ → ℕ
line_at text at = 1 + line_feeds (take at text)

-- these are the tokens of a text from an index on, with their lines
pub data IsCutFrom (text : List ℕ) : ℕ → LexState → List Lexeme → Type 0 where
  ended : {at : ℕ} {state : LexState} → front (mode_of state) (drop at text) ≡ End → IsCutFrom text at state []
  blank : {at n : ℕ} {state : LexState} {lexemes : List Lexeme} → front (mode_of state) (drop at text) ≡ Blank n
      → IsCutFrom text (at + n) state lexemes → IsCutFrom text at state lexemes
  token : {at n : ℕ} {state : LexState} {token : Token} {lexemes : List Lexeme}
      → front (mode_of state) (drop at text) ≡ Begins token n
      → IsCutFrom text (at + n) (state_after state token) lexemes
      → IsCutFrom text at state (lexeme token (line_at text at) ∷ lexemes)

-- these are the tokens of a text, with their lines
abbrev pub IsCut : List ℕ → List Lexeme → Type 0
IsCut text lexemes = IsCutFrom text 0 at_start lexemes
