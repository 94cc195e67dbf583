-- The marks of the script language, and which of them stands at the front of a text: the longest.
use Rattle.std.specs.Prelude.{ℕ, zero, suc, List, [], ◌∷◌, take, length, fold, max, Option, Some, None, Bool, true}
use Rattle.std.specs.Prelude.{false, cond, codes, bytes_eq}
use Rattle.std.specs.List.{find}
use Rattle.std.specs.Option.{option_or}
use Rattle.ldscript_tokens.specs.declared.token.Mode.{Mode}
use Rattle.ldscript_tokens.specs.declared.token.Mode.TheVariants.{Expression, Pattern}
use Rattle.ldscript_tokens.specs.declared.token.Mark.{Mark}
use Rattle.ldscript_tokens.specs.declared.token.Mark.TheVariants.{OpenParenthesis, CloseParenthesis, OpenBrace}
use Rattle.ldscript_tokens.specs.declared.token.Mark.TheVariants.{CloseBrace}
use Rattle.ldscript_tokens.specs.declared.token.Mark.TheVariants.{Semicolon, Colon, Comma, Assign, AddAssign, Not}
use Rattle.ldscript_tokens.specs.declared.token.Mark.TheVariants.{Minus}
use Rattle.ldscript_tokens.specs.declared.token.Mark.TheVariants.{Complement, Star, Slash, Percent, Plus, ShiftLeft}
use Rattle.ldscript_tokens.specs.declared.token.Mark.TheVariants.{ShiftRight, Less, LessOrEqual, Greater}
use Rattle.ldscript_tokens.specs.declared.token.Mark.TheVariants.{GreaterOrEqual}
use Rattle.ldscript_tokens.specs.declared.token.Mark.TheVariants.{Equal, NotEqual, And, AndAnd, Or, OrOr, Question}

-- a mark with its spelling
pub record MarkRow : Type 0 where
  pub spelled : List ℕ
  pub mark : Mark

abbrev pub mark_row : List ℕ → Mark → MarkRow
mark_row bytes mark = record { spelled = bytes; mark = mark }

-- the marks of the language
abbrev pub marks : List MarkRow
marks =
    mark_row (codes "(") OpenParenthesis
    ∷ mark_row (codes ")") CloseParenthesis
    ∷ mark_row (codes "{") OpenBrace
    ∷ mark_row (codes "}") CloseBrace
    ∷ mark_row (codes ";") Semicolon
    ∷ mark_row (codes ":") Colon
    ∷ mark_row (codes ",") Comma
    ∷ mark_row (codes "=") Assign
    ∷ mark_row (codes "+=") AddAssign
    ∷ mark_row (codes "!") Not
    ∷ mark_row (codes "-") Minus
    ∷ mark_row (codes "~") Complement
    ∷ mark_row (codes "*") Star
    ∷ mark_row (codes "/") Slash
    ∷ mark_row (codes "%") Percent
    ∷ mark_row (codes "+") Plus
    ∷ mark_row (codes "<<") ShiftLeft
    ∷ mark_row (codes ">>") ShiftRight
    ∷ mark_row (codes "<") Less
    ∷ mark_row (codes "<=") LessOrEqual
    ∷ mark_row (codes ">") Greater
    ∷ mark_row (codes ">=") GreaterOrEqual
    ∷ mark_row (codes "==") Equal
    ∷ mark_row (codes "!=") NotEqual
    ∷ mark_row (codes "&") And
    ∷ mark_row (codes "&&") AndAnd
    ∷ mark_row (codes "|") Or
    ∷ mark_row (codes "||") OrOr
    ∷ mark_row (codes "?") Question
    ∷ []

-- those of pattern mode: ( ) { } ; = +=
abbrev pub is_pattern_mark : Mark → Bool
is_pattern_mark OpenParenthesis = true
is_pattern_mark CloseParenthesis = true
is_pattern_mark OpenBrace = true
is_pattern_mark CloseBrace = true
is_pattern_mark Semicolon = true
is_pattern_mark Assign = true
is_pattern_mark AddAssign = true
is_pattern_mark _ = false

abbrev pub is_mark_in : Mode → Mark → Bool
is_mark_in Expression mark = true
is_mark_in Pattern mark = is_pattern_mark mark

-- the row of the mark that is spelled so
unfoldable pub spelled_row : List ℕ → Option MarkRow
spelled_row bytes = find (λ row. bytes_eq row.spelled bytes) marks

abbrev pub row_in : Mode → Option MarkRow → Option MarkRow
row_in mode None = None
row_in mode (Some row) = cond (is_mark_in mode row.mark) (Some row) None

-- the longest mark of a mode, of at most this number of bytes, that stands at the front of a text
abbrev pub longest_within : ℕ → Mode → List ℕ → Option MarkRow
longest_within zero mode text = None
longest_within (suc n) mode text =
    option_or (row_in mode (spelled_row (take (suc n) text))) (longest_within n mode text)

-- the number of bytes of the longest mark of all
abbrev pub longest_spelling : ℕ
longest_spelling = fold (λ n row. max n (length row.spelled)) 0 marks

-- the longest mark of a mode that stands at the front of a text
unfoldable pub longest_mark : Mode → List ℕ → Option MarkRow
longest_mark mode text = longest_within longest_spelling mode text
