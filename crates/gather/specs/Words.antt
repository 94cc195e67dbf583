-- The words of the input statements of a script, one by one, and how a section's first match is found among them.
use Rattle.std.specs.Prelude.{ℕ, ◌+◌, List, [], ◌∷◌, ◌++◌, map, Option, Some, None, Bool, false, not, ◌&&◌}
use Rattle.std.specs.Prelude.{bytes_eq, if◌then◌else◌, is_none, min}
use Rattle.std.specs.Option.{option_map_or}
use Rattle.ldscript.specs.terms.Matching.{is_match}
use Rattle.ldscript.specs.terms.CodeTerms.{exact_name}
use Rattle.ldscript.specs.statements.Numbering.{InputStatementAt}
use Rattle.ldscript.specs.statements.declared.input.Input.{Input}
use Rattle.ldscript.specs.statements.declared.input.SectionWord.{SectionWord}
use Rattle.ldmodel.specs.FirstMatch.{is_any_match, word_takes}
use Rattle.gather.specs.declared.word.WordAt as code

-- a word of an input statement, with the statement and its number
pub record WordAt : Type 0 where
  pub statement : ℕ
  pub input : Input
  pub word : SectionWord

-- the words as the code lends them
abbrev pub shown_word : code.WordAt → WordAt
shown_word w = record { statement = w.statement.0; input = w.input.now; word = w.word.now }

abbrev pub shown_words : List code.WordAt → List WordAt
shown_words ws = map shown_word ws

-- the statement takes a section of this name, of an object of this name, by this word
abbrev pub takes_by : (file section : List ℕ) → WordAt → Bool
takes_by file section w = is_match w.input.file file && word_takes file section w.word

-- it takes sections of an object of this name by this word, those whose names match the word
abbrev pub takes_from : (file : List ℕ) → WordAt → Bool
takes_from file w = is_match w.input.file file && not (is_any_match w.word.excluded file)

-- the number of the statement of the first word that takes the section
abbrev pub first_taker : (file section : List ℕ) → List WordAt → Option ℕ
first_taker file section [] = None
first_taker file section (w ∷ ws) = if takes_by file section w then Some w.statement else first_taker file section ws

-- the one name that the pattern of a word matches is this one
abbrev pub is_named : List ℕ → WordAt → Bool
is_named name w = option_map_or (λ own. bytes_eq own name) (exact_name w.word.pattern) false

-- the pattern of a word has signs, so that it can match several names
abbrev pub is_wild : WordAt → Bool
is_wild w = is_none (exact_name w.word.pattern)

-- the one file that the statement of a word is for has this name
abbrev pub is_for : List ℕ → WordAt → Bool
is_for file w = option_map_or (λ own. bytes_eq own file) (exact_name w.input.file) false

-- the pattern for the file has signs, so that the statement can be for several files
abbrev pub is_for_more : WordAt → Bool
is_for_more w = is_none (exact_name w.input.file)

-- the words of statement number n
abbrev pub words_of : ℕ → Input → List SectionWord → List WordAt
words_of n i [] = []
words_of n i (w ∷ ws) = (record { statement = n; input = i; word = w }) ∷ words_of n i ws

-- those of all statements, where the first has number n
abbrev pub words_from : ℕ → List InputStatementAt → List WordAt
words_from n [] = []
words_from n (i ∷ is) = words_of n i.input i.input.sections ++ words_from (n + 1) is

-- the lesser of two numbers, or the one that is there
abbrev pub lesser : Option ℕ → Option ℕ → Option ℕ
lesser None b = b
lesser (Some m) None = Some m
lesser (Some m) (Some n) = Some (min m n)
