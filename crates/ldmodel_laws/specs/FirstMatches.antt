-- Which input statement takes an input section, as the manual says it: by how names split among the parts of patterns
-- (GNU ld manual, "Input Section Basics", "Input Section Wildcard Patterns").
use Rattle.std.specs.Prelude.{◌≡◌, ℕ, List, ◌∷◌, ◌++◌, length, Any, Contains}
use Rattle.ldscript.specs.terms.Matching.{Matches}
use Rattle.ldscript.specs.terms.Parts as pattern
use Rattle.ldscript.specs.statements.Numbering.{InputStatementAt, input_statements}
use Rattle.ldscript.specs.statements.declared.input.Input.{Input}
use Rattle.ldscript.specs.statements.declared.input.SectionWord.{SectionWord}
use Rattle.ldscript.specs.statements.declared.statement.Statement.{Statement}

-- the word matches the section's name, and no excluded pattern of it the object's
pub record WordTakes (file section : List ℕ) (w : SectionWord) : Type 0 where
  pub matches : Matches w.pattern section
  pub included : (x : List pattern.Part) → Contains w.excluded x → Matches x file → ⊥

-- the file pattern matches the object's name, and one of the words takes the section
pub record Takes (file section : List ℕ) (i : Input) : Type 0 where
  pub of_file : Matches i.file file
  pub word : Any (WordTakes file section) i.sections

-- statement number n takes the section, and none before it does
pub record IsFirstMatch (script : List Statement) (file section : List ℕ) (n : ℕ) : Type 0 where
  pub before : List InputStatementAt
  pub statement : InputStatementAt
  pub after : List InputStatementAt
  pub place : input_statements script ≡ before ++ statement ∷ after
  pub number : n ≡ length before
  pub takes : Takes file section statement.input
  pub earlier : (i : InputStatementAt) → Contains before i → Takes file section i.input → ⊥

-- no statement takes the section
abbrev pub IsUnmatched : List Statement → (file section : List ℕ) → Type 0
IsUnmatched script file section =
    (i : InputStatementAt) → Contains (input_statements script) i → Takes file section i.input → ⊥
