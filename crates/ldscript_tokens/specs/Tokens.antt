-- The tokens of a script, and how a text is cut into them: from left to right, each as long as possible.
-- White space and comments part tokens. A comment begins only where a token could begin, goes before any token
-- there, and runs from `/*` to the next `*/` behind it.
use Rattle.std.specs.Prelude.{ℕ, ◌+◌, List, [], ◌∷◌, take, drop, length, slice_index, Option, Some, None, Bool, not}
use Rattle.std.specs.Prelude.{◌&&◌, ◌||◌, ◌==◌, if◌then◌else◌, codes, bytes_eq}
use Rattle.std.specs.Option.{option_map}
use Rattle.ldscript_tokens.specs.Bytes.{is_space, is_name_start, is_name_byte, is_decimal_digit, is_octal_digit}
use Rattle.ldscript_tokens.specs.Bytes.{is_hex_digit, is_word_byte, is_escapable, is_text_byte, run_length}
use Rattle.ldscript_tokens.specs.Marks.{MarkRow, longest_mark}
use Rattle.ldscript_tokens.specs.declared.token.Mode.{Mode}
use Rattle.ldscript_tokens.specs.declared.token.Mode.TheVariants.{Expression, Pattern}
use Rattle.ldscript_tokens.specs.declared.token.Mark.{Mark}

-- a token with its bytes; a text without its quotes
pub data Token : Type 0 where
  Name : (spelled : List ℕ) → Token
  Number : (spelled : List ℕ) → Token
  Text : (content : List ℕ) → Token
  Discard : Token
  Word : (spelled : List ℕ) → Token
  Punctuation : (mark : Mark) → Token

-- a token and its line: one more than the line feeds before its first byte
pub record Lexeme : Type 0 where
  pub token : Token
  pub line : ℕ

abbrev pub lexeme : Token → ℕ → Lexeme
lexeme token line = record { token = token; line = line }

-- the line of the first of these, 0 where there is none
abbrev pub first_line : List Lexeme → ℕ
first_line [] = 0
first_line (first ∷ rest) = first.line

-- what stands at the front of a text: its end, a number of bytes of white space or comment, a token of some length
-- bytes, or nothing that the language has
pub data Front : Type 0 where
  End : Front
  Blank : (n : ℕ) → Front
  Begins : (token : Token) → (n : ℕ) → Front
  Nothing : Front

-- `/*`, and how far the next `*/` behind it reaches
abbrev pub is_comment : List ℕ → Bool
is_comment text = (slice_index text 0 == 47) && (slice_index text 1 == 42)

-- the number of bytes before the first `*/`
abbrev pub star_slash : List ℕ → Option ℕ
star_slash [] = None
star_slash (byte ∷ rest) =
    if (byte == 42) && (slice_index rest 0 == 47) then Some 0 else option_map (λ n. n + 1) (star_slash rest)

abbrev pub comment_to : Option ℕ → Front
comment_to None = Nothing
comment_to (Some n) = Blank (n + 4)

unfoldable pub comment_front : List ℕ → Front
comment_front text = comment_to (star_slash (drop 2 text))

-- NAME: a letter, `_` or `.`, then any of letters, digits, `_ . $ -`; none begins with `.-`, so that `.-4` is a
-- subtraction from `.`
abbrev pub name_length : List ℕ → ℕ
name_length text =
    if (slice_index text 0 == 46) && (slice_index text 1 == 45) then 1
    else run_length is_name_byte text

unfoldable pub name_front : List ℕ → Front
name_front text = let n = name_length text in Begins (Name (take n text)) n

-- NUMBER: 0x or 0X and hex digits; 0 and octal digits; 1-9 and decimal digits
abbrev pub is_hex : List ℕ → Bool
is_hex text = (slice_index text 0 == 48) && ((slice_index text 1 == 120) || (slice_index text 1 == 88))
    && is_hex_digit (slice_index text 2)

unfoldable pub digits_length : List ℕ → ℕ
digits_length text =
    if is_hex text then 2 + run_length is_hex_digit (drop 2 text)
    else (if slice_index text 0 == 48 then run_length is_octal_digit text
    else run_length is_decimal_digit text)

-- then perhaps K or M
abbrev pub is_suffix : ℕ → Bool
is_suffix byte = (byte == 75) || (byte == 77)

abbrev pub number_length : List ℕ → ℕ
number_length text = let n = digits_length text in if is_suffix (slice_index text n) then n + 1 else n

-- not followed by a byte of a NAME other than `-`
unfoldable pub number_front : List ℕ → Front
number_front text =
    let n = number_length text in
    let after = slice_index text n in
    if is_name_byte after && not (after == 45) then Nothing else Begins (Number (take n text)) n

-- STRING: a double quote, bytes from space to `~` but the quote, and a quote
unfoldable pub text_front : List ℕ → Front
text_front text =
    let n = run_length is_text_byte (drop 1 text) in
    if slice_index text (n + 1) == 34 then Begins (Text (take n (drop 1 text))) (n + 2) else Nothing

-- the mark that stands there, or else this
abbrev pub mark_or : Front → Option MarkRow → Front
mark_or other None = other
mark_or other (Some row) = Begins (Punctuation row.mark) (length row.spelled)

unfoldable pub mark_front : List ℕ → Front
mark_front text = mark_or Nothing (longest_mark Expression text)

abbrev pub discard_spelling : List ℕ
discard_spelling = codes "/DISCARD/"

-- expression mode
unfoldable pub expression_front : List ℕ → Front
expression_front text =
    let byte = slice_index text 0 in
    if is_name_start byte then name_front text
    else (if is_decimal_digit byte then number_front text
    else (if byte == 34 then text_front text
    else (if bytes_eq discard_spelling (take 9 text) then Begins Discard 9
    else mark_front text)))

-- WORD: a longest run of word bytes and of pairs of `\` with a byte from `!` to `~`
abbrev pub word_length : List ℕ → ℕ
word_length [] = 0
word_length (byte ∷ []) = if is_word_byte byte then 1 else 0
word_length (byte ∷ next ∷ rest) =
    if is_word_byte byte then 1 + word_length (next ∷ rest)
    else (if (byte == 92) && is_escapable next then 2 + word_length rest else 0)

unfoldable pub word_front : List ℕ → Front
word_front text = let n = word_length text in if n == 0 then Nothing else Begins (Word (take n text)) n

-- pattern mode: its marks, and words
unfoldable pub pattern_front : List ℕ → Front
pattern_front text = mark_or (word_front text) (longest_mark Pattern text)

abbrev pub token_front : Mode → List ℕ → Front
token_front Expression text = expression_front text
token_front Pattern text = pattern_front text

-- what stands at the front of a text that is read in a mode
unfoldable pub front : Mode → List ℕ → Front
front mode [] = End
front mode (byte ∷ rest) =
    if is_space byte then Blank 1
    else (if is_comment (byte ∷ rest) then comment_front (byte ∷ rest)
    else token_front mode (byte ∷ rest))
