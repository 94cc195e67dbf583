-- Which input statement takes an input section (GNU ld manual, "Input Section Basics"): the first one in the script
-- that matches it. A statement matches by a pattern for the name of the file and words for the name of the section;
-- EXCLUDE_FILE before a word leaves files out for that word alone.
use Rattle.std.specs.Prelude.{ℕ, List, Option, Bool, not, ◌&&◌, position}
use Rattle.std.specs.List.{list_any}
use Rattle.ldscript.specs.terms.Matching.{is_match}
use Rattle.ldscript.specs.terms.Parts as pattern
use Rattle.ldscript.specs.statements.Numbering.{InputStatementAt, input_statements}
use Rattle.ldscript.specs.statements.declared.input.Input.{Input}
use Rattle.ldscript.specs.statements.declared.input.SectionWord.{SectionWord}
use Rattle.ldscript.specs.statements.declared.statement.Statement.{Statement}

-- some pattern of these matches the name
abbrev pub is_any_match : List (List pattern.Part) → List ℕ → Bool
is_any_match patterns name = list_any (λ parts. is_match parts name) patterns

-- a word takes a section of its name, from a file that it doesn't exclude
abbrev pub word_takes : (file section : List ℕ) → SectionWord → Bool
word_takes file section word = is_match word.pattern section && not (is_any_match word.excluded file)

-- the statement's file pattern matches the file, and one of its words takes the section
abbrev pub takes : (file section : List ℕ) → Input → Bool
takes file section statement = is_match statement.file file && list_any (word_takes file section) statement.sections

-- the least number of an input statement that takes a section of this name, of an object of this name
unfoldable pub first_match : List Statement → (file section : List ℕ) → Option ℕ
first_match script file section =
    position (λ (statement : InputStatementAt). takes file section statement.input) (input_statements script)
