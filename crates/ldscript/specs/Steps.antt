-- The words in which the grammar is written: parts, each of which leads from the tokens at which it begins to those
-- that follow it.
use Rattle.std.specs.Prelude.{◌≡◌, ◌⊎◌, ℕ, List, [], ◌∷◌, Option, Some, None, Bool, false, if◌then◌else◌, ◌&&◌, ◌==◌}
use Rattle.std.specs.Prelude.{IsTrue, slice_index}
use Rattle.std.specs.List.{list_all}
use Rattle.ldscript_tokens.specs.Bytes.{is_name_start, is_name_byte}
use Rattle.ldscript_tokens.specs.Tokens.{Token, Lexeme, lexeme, first_line, Name, Text, Word, Punctuation}
use Rattle.ldscript_tokens.specs.Words.{is_free_name, is_free_word}
use Rattle.ldscript_tokens.specs.declared.token.Mark.{Mark}
use Rattle.ldscript_tokens.specs.declared.token.Mark.TheVariants.{Semicolon}
use Rattle.ldscript_tokens.specs.declared.token.Mode.{Mode}
use Rattle.ldscript_tokens.specs.declared.token.Mode.TheVariants.{Expression, Pattern}
use Rattle.ldscript_terms.specs.Expressions.{Expr}
use Rattle.ldscript_terms.specs.Grammar.{Spells, Whole}
use Rattle.ldscript_terms.specs.Parts as patterns
use Rattle.ldscript_terms.specs.Spelling as spelling

abbrev pub Rule : Type 1
Rule = List Lexeme → List Lexeme → Type 0

-- one after the other
infixr 5 ◌▸◌
abbrev pub ◌▸◌ : Rule → Rule → Rule
(p ▸ q) lexemes rest = (middle : List Lexeme) × p lexemes middle × q middle rest

-- one or the other
infixr 4 ◌or◌
abbrev pub ◌or◌ : Rule → Rule → Rule
(p or q) lexemes rest = p lexemes rest ⊎ q lexemes rest

-- nothing at all
abbrev pub nothing : Rule
nothing lexemes rest = lexemes ≡ rest

-- what may stand there or not
abbrev pub optional : {A : Type 0} → (A → Rule) → Option A → Rule
optional p None = nothing
optional p (Some x) = p x

-- any number of these
abbrev pub each : {A : Type 0} → (A → Rule) → List A → Rule
each p [] = nothing
each p (x ∷ xs) = p x ▸ each p xs

-- one or more of these
abbrev pub some : {A : Type 0} → (A → Rule) → List A → Rule
some p [] lexemes rest = ⊥
some p (x ∷ xs) lexemes rest = (p x ▸ each p xs) lexemes rest

-- this token, on any line
abbrev pub token : Token → Rule
token wanted lexemes rest = (line : ℕ) × (lexemes ≡ lexeme wanted line ∷ rest)

abbrev pub mark : Mark → Rule
mark wanted = token (Punctuation wanted)

-- any number of `;`
pub data Semicolons : List Lexeme → List Lexeme → Type 0 where
  none : {lexemes : List Lexeme} → Semicolons lexemes lexemes
  one : {lexemes middle rest : List Lexeme} → mark Semicolon lexemes middle → Semicolons middle rest
      → Semicolons lexemes rest

-- any number of these, with any number of `;` before, between and after them
abbrev pub statements : {A : Type 0} → (A → Rule) → List A → Rule
statements p [] = Semicolons
statements p (x ∷ xs) = Semicolons ▸ p x ▸ statements p xs

-- a statement keeps the line of its first token
abbrev pub on_line : ℕ → Rule → Rule
on_line line p lexemes rest = (line ≡ first_line lexemes) × p lexemes rest

-- a word in the mode in which a statement begins: a name token, or inside an output section a word token
abbrev pub word_in : Mode → List ℕ → Token
word_in Expression word = Name word
word_in Pattern word = Word word

-- this very word
abbrev pub key : Mode → List ℕ → Rule
key mode word = token (word_in mode word)

-- spelled as a NAME token is: a letter, `_` or `.`, then letters, digits, `_ . $ -`, and no `.-` in front
unfoldable pub is_name_spelling : List ℕ → Bool
is_name_spelling word =
    if is_name_start (slice_index word 0)
    then (if (slice_index word 0 == 46) && (slice_index word 1 == 45) then false else list_all is_name_byte word)
    else false

abbrev pub is_name_in : Mode → List ℕ → Bool
is_name_in Expression name = is_free_name name
is_name_in Pattern name = is_free_name name && is_name_spelling name

-- NAME in a mode: inside an output section, at the front of a statement, it is a word token
abbrev pub name_in : Mode → List ℕ → Rule
name_in mode name lexemes rest = IsTrue (is_name_in mode name) × token (word_in mode name) lexemes rest

-- NAME among tokens of expression mode
abbrev pub name : List ℕ → Rule
name spelled = name_in Expression spelled

-- STRING
abbrev pub string : List ℕ → Rule
string content = token (Text content)

-- e
abbrev pub expression : Expr → Rule
expression wanted = Spells Whole wanted

-- WORD, which must spell a pattern
abbrev pub pattern : List patterns.Part → Rule
pattern parts lexemes rest =
    (word : List ℕ) × IsTrue (is_free_word word) × spelling.SpellsPattern parts word × token (Word word) lexemes rest
