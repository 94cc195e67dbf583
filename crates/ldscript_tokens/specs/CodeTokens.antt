-- What the tokens of the code stand for, whose bytes are places of a text, and the numbers of its refusals (this
-- project's own).
use Rattle.std.specs.Prelude.{ℕ, ◌<◌, ◌≤◌, List, slice_range}
use Rattle.ldscript_tokens.specs.Tokens.{Token, Lexeme, lexeme, Front, Name, Number, Text, Discard, Word, Punctuation}
use Rattle.ldscript_tokens.specs.Tokens.{End, Blank, Begins, Nothing}
use Rattle.ldscript_tokens.specs.declared.token.CodeToken.{CodeToken}
use Rattle.ldscript_tokens.specs.declared.token.ExpressionStretch.{ExpressionStretch}
use Rattle.ldscript_tokens.specs.declared.token.ExpressionStretch.TheVariants.{Closed, Awaited, ToSemicolon}
use Rattle.ldscript_tokens.specs.declared.token.ExpressionStretch.TheVariants.{ToParenthesis}
use Rattle.ldscript_tokens.specs.declared.token.LexState.{LexState}
use Rattle.ldscript_tokens.specs.declared.token.TokenKind.{TokenKind}
use Rattle.ldscript_tokens.specs.declared.token.TokenKind.TheVariants as kind
use Rattle.ldscript_tokens.specs.declared.front.Ahead.{Ahead}
use Rattle.ldscript_tokens.specs.declared.front.Ahead.TheVariants.{Finished, Space, Found, Unknown}
use Rattle.ldscript_tokens.specs.declared.front.FrontToken.{FrontToken}
use Rattle.ldscript_tokens.specs.declared.refusal.TokenRefusal.{TokenRefusal}
use Rattle.ldscript_tokens.specs.declared.refusal.TokenRefusal.TheVariants.{Limit, NotAToken, NoMemory}

-- the token of a kind with these bytes
abbrev pub spelled_token : TokenKind → List ℕ → Token
spelled_token kind.Name bytes = Name bytes
spelled_token kind.Number bytes = Number bytes
spelled_token kind.Text bytes = Text bytes
spelled_token kind.Discard bytes = Discard
spelled_token kind.Word bytes = Word bytes
spelled_token (kind.Punctuation m) bytes = Punctuation m

-- the token that stands at a place of a text
abbrev pub token_of : List ℕ → CodeToken → Token
token_of text t = spelled_token t.kind (slice_range text t.start t.end)

abbrev pub lexeme_of : List ℕ → CodeToken → Lexeme
lexeme_of text t = lexeme (token_of text t) t.line

abbrev pub piece_of : List ℕ → FrontToken → Token
piece_of text t = spelled_token t.kind (slice_range text t.start t.end)

abbrev pub front_of : List ℕ → Ahead → Front
front_of text Finished = End
front_of text (Space n) = Blank n
front_of text (Found t n) = Begins (piece_of text t) n
front_of text Unknown = Nothing

-- it takes a byte or more, and at most this number of bytes
abbrev pub IsAdvance : ℕ → Ahead → Type 0
IsAdvance room Finished = Unit {0}
IsAdvance room (Space n) = (0 < n) × (n ≤ room)
IsAdvance room (Found t n) = (0 < n) × (n ≤ room) × (t.start ≤ t.end) × (t.end ≤ n)
IsAdvance room Unknown = Unit {0}

-- at most this number of parentheses are open in a stretch
abbrev pub IsShortStretch : ℕ → ExpressionStretch → Type 0
IsShortStretch n Closed = Unit {0}
IsShortStretch n Awaited = Unit {0}
IsShortStretch n ToSemicolon = Unit {0}
IsShortStretch n (ToParenthesis k) = k ≤ n

-- at most these numbers of braces are open, and of parentheses in a stretch
abbrev pub IsShallow : ℕ → LexState → Type 0
IsShallow n p = (p.depth ≤ n) × IsShortStretch n p.stretch

-- a token that lies within this number of bytes
abbrev pub IsInText : ℕ → CodeToken → Type 0
IsInText n t = (t.start ≤ t.end) × (t.end ≤ n)

abbrev pub token_refusal_number : TokenRefusal → ℕ
token_refusal_number NotAToken = 1
token_refusal_number Limit = 5
token_refusal_number (NoMemory _) = 6
