-- The lists of the numbering as the code lends them, and how they grow.
use Rattle.std.specs.Prelude.{◌≡◌, List, ◌++◌, map}
use Rattle.std.specs.Borrow.{Bor}
use Rattle.ldscript_statements.specs.declared.statement.Item.{Item}
use Rattle.ldscript_statements.specs.declared.statement.Region.{Region}
use Rattle.ldscript_statements.specs.declared.numbering.OutputSectionAt as code_section
use Rattle.ldscript_statements.specs.declared.numbering.InputStatementAt as code_input
use Rattle.ldscript_statements.specs.declared.numbering.DirectiveAt as code_directive
use Rattle.ldscript_statements.specs.Numbering.{OutputSectionAt, InputStatementAt, DirectiveAt}

abbrev pub shown_items : List (Bor Item) → List Item
shown_items list = map (λ (i : Bor Item). i.now) list

abbrev pub shown_sections : List code_section.OutputSectionAt → List OutputSectionAt
shown_sections list = map (λ (s : code_section.OutputSectionAt). record { line = s.line; section = s.section.now }) list

abbrev pub shown_inputs : List code_input.InputStatementAt → List InputStatementAt
shown_inputs list =
    map (λ (s : code_input.InputStatementAt). record { line = s.line; place = s.place; input = s.input.now }) list

abbrev pub shown_directives : List code_directive.DirectiveAt → List DirectiveAt
shown_directives list = map (λ (c : code_directive.DirectiveAt). record { line = c.line; command = c.command.now }) list

abbrev pub shown_regions : List (Bor Region) → List Region
shown_regions list = map (λ (r : Bor Region). r.now) list

abbrev pub AddsItems : List (Bor Item) → List (Bor Item) → List Item → Type 0
AddsItems old new these = shown_items new ≡ shown_items old ++ these

abbrev pub AddsSections : List code_section.OutputSectionAt → List code_section.OutputSectionAt
    → List OutputSectionAt → Type 0
AddsSections old new these = shown_sections new ≡ shown_sections old ++ these

abbrev pub AddsInputs : List code_input.InputStatementAt → List code_input.InputStatementAt
    → List InputStatementAt → Type 0
AddsInputs old new these = shown_inputs new ≡ shown_inputs old ++ these

abbrev pub AddsDirectives : List code_directive.DirectiveAt → List code_directive.DirectiveAt → List DirectiveAt
    → Type 0
AddsDirectives old new these = shown_directives new ≡ shown_directives old ++ these

abbrev pub AddsRegions : List (Bor Region) → List (Bor Region) → List Region → Type 0
AddsRegions old new these = shown_regions new ≡ shown_regions old ++ these
