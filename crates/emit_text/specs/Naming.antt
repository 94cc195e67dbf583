-- The names that faults and the map have numbers and keys in place of, as the code finds them.
use Rattle.std.specs.Prelude.{◌≡◌, ℕ, List, [], map, find, Option, ◌==◌}
use Rattle.std.specs.Borrow.{Bor}
use Rattle.std.specs.Option.{option_map, option_map_or}
use Rattle.elfobj.specs.Sections.{LinkedSection}
use Rattle.elfobj.specs.declared.section.SectionIndex.{SectionIndex}
use Rattle.ldscript.specs.Numbered.{shown_regions, shown_sections}
use Rattle.ldscript.specs.Numbering.{AssertionAt, OutputSectionAt, asserts, output_sections, regions}
use Rattle.ldscript.specs.statements.declared.statement.Region.{Region}
use Rattle.ldmodel.specs.FaultCode.{fault_of}
use Rattle.ldmodel.specs.FaultText.{fault_words}
use Rattle.ldmodel.specs.Lines.{line_of}
use Rattle.ldmodel.specs.declared.fault.Fault as code
use Rattle.ldmodel.specs.Mentioned.{mentioned_names}
use Rattle.ldmodel.specs.Names.{entry_symbol}
use Rattle.ldmodel.specs.Project.{Project}
use Rattle.emit_text.specs.declared.assertion.AssertionAt as code_assertion
use Rattle.emit_text.specs.declared.script_names.ScriptNames.{ScriptNames}

abbrev pub shown_assertions : List code_assertion.AssertionAt → List AssertionAt
shown_assertions list =
    map (λ (a : code_assertion.AssertionAt). record { line = a.line; assertion = a.assertion.now }) list

abbrev pub shown_names : List (Bor (List ℕ)) → List (List ℕ)
shown_names list = map (λ (n : Bor (List ℕ)). n.now) list

abbrev pub section_name : Option OutputSectionAt → List ℕ
section_name found = option_map_or (λ (x : OutputSectionAt). x.section.name) found []

abbrev pub region_name : Option Region → List ℕ
region_name found = option_map_or (λ (r : Region). r.name) found []

abbrev pub assertion_line : Option AssertionAt → ℕ
assertion_line found = option_map_or (λ (a : AssertionAt). a.line) found 0

abbrev pub assertion_message : Option AssertionAt → List ℕ
assertion_message found = option_map_or (λ (a : AssertionAt). a.assertion.message) found []

-- these are the names of a project's script, and of its entry symbol
pub record AreNamesOf (project : Project) (names : ScriptNames) : Type 0 where
  pub sections : shown_sections names.sections.now ≡ output_sections project.script
  pub regions : shown_regions names.regions.now ≡ regions project.script
  pub assertions : shown_assertions names.assertions.now ≡ asserts project.script
  pub mentioned : shown_names names.mentioned.now ≡ mentioned_names project.script
  pub entry : option_map (λ (n : Bor (List ℕ)). n.now) names.entry ≡ entry_symbol project

-- the linked section of a number
abbrev pub numbered : List LinkedSection → SectionIndex → Option LinkedSection
numbered sections k = find (λ (section : LinkedSection). section.number.0 == k.0) sections

-- the line of a fault
abbrev pub line_of_fault : Project → code.Fault → List ℕ
line_of_fault project f = line_of (fault_words (fault_of project (λ key. key) f))
