-- The statements of a script in text order, out of their tree. A statement's number is its place in its list, from 0:
-- each input statement, those of /DISCARD/ among them, each output section, /DISCARD/ not among them, each assignment,
-- each PROVIDE and each ASSERT has one.
use Rattle.std.specs.Prelude.{ℕ, ◌+◌, List, [], ◌∷◌, ◌++◌, length, map, Option, Some, None}
use Rattle.ldscript_statements.specs.declared.input.Input.{Input}
use Rattle.ldscript_statements.specs.declared.input.InputStatement.{InputStatement}
pub use Rattle.ldscript_statements.specs.declared.place.InputPlace.{InputPlace}
pub use Rattle.ldscript_statements.specs.declared.place.InputPlace.TheVariants.{InSection, InDiscard}
use Rattle.ldscript_statements.specs.declared.section.BodyCommand.{BodyCommand}
use Rattle.ldscript_statements.specs.declared.section.BodyCommand.TheVariants as body
use Rattle.ldscript_statements.specs.declared.section.BodyStatement.{BodyStatement}
use Rattle.ldscript_statements.specs.declared.section.OutputSection.{OutputSection}
use Rattle.ldscript_statements.specs.declared.directive.Assignment.{Assignment}
use Rattle.ldscript_statements.specs.declared.directive.Assertion.{Assertion}
use Rattle.ldscript_statements.specs.declared.directive.Directive.{Directive}
use Rattle.ldscript_statements.specs.declared.directive.Directive.TheVariants as directives
use Rattle.ldscript_statements.specs.declared.statement.Region.{Region}
use Rattle.ldscript_statements.specs.declared.statement.ItemCommand.{ItemCommand}
use Rattle.ldscript_statements.specs.declared.statement.ItemCommand.TheVariants as item
use Rattle.ldscript_statements.specs.declared.statement.Item.{Item}
use Rattle.ldscript_statements.specs.declared.statement.Command.{Command}
use Rattle.ldscript_statements.specs.declared.statement.Command.TheVariants as top
use Rattle.ldscript_statements.specs.declared.statement.Statement.{Statement}

-- the statements of SECTIONS
abbrev pub items_of : Command → List Item
items_of (top.Sections items) = items
items_of _ = []

abbrev pub items : List Statement → List Item
items [] = []
items (statement ∷ rest) = items_of statement.command ++ items rest

-- an output section and the line of its name
pub record OutputSectionAt : Type 0 where
  pub line : ℕ
  pub section : OutputSection

abbrev pub item_sections : ℕ → ItemCommand → List OutputSectionAt
item_sections line (item.Section section) = (record { line = line; section = section }) ∷ []
item_sections line _ = []

abbrev pub sections_in : List Item → List OutputSectionAt
sections_in [] = []
sections_in (first ∷ rest) = item_sections first.line first.command ++ sections_in rest

-- the output sections
abbrev pub output_sections : List Statement → List OutputSectionAt
output_sections statements = sections_in (items statements)

-- an input statement, the line of its first token (that of KEEP, where it has one), and where it stands: in the output
-- section of a number, or in /DISCARD/
pub record InputStatementAt : Type 0 where
  pub line : ℕ
  pub place : InputPlace
  pub input : Input

abbrev pub inputs_of : InputPlace → ℕ → BodyCommand → List InputStatementAt
inputs_of place line (body.Input input) = (record { line = line; place = place; input = input }) ∷ []
inputs_of place line _ = []

abbrev pub inputs_in : InputPlace → List BodyStatement → List InputStatementAt
inputs_in place [] = []
inputs_in place (statement ∷ rest) = inputs_of place statement.line statement.command ++ inputs_in place rest

abbrev pub discarded_inputs : List InputStatement → List InputStatementAt
discarded_inputs inputs =
    map (λ (statement : InputStatement). record {
      line = statement.line;
      place = InDiscard;
      input = statement.input;
    }) inputs

-- those of a statement of SECTIONS, where number is that of the next output section
abbrev pub item_inputs : ℕ → ItemCommand → List InputStatementAt
item_inputs number (item.Section section) = inputs_in (InSection number) section.body
item_inputs number (item.Discard inputs) = discarded_inputs inputs
item_inputs number _ = []

abbrev pub inputs_from : ℕ → List Item → List InputStatementAt
inputs_from number [] = []
inputs_from number (first ∷ rest) = item_inputs number first.command ++ inputs_from
    (number + length (item_sections first.line first.command)) rest

-- the input statements
abbrev pub input_statements : List Statement → List InputStatementAt
input_statements statements = inputs_from 0 (items statements)

-- an assignment of a symbol, a PROVIDE or an ASSERT, and its line
pub record DirectiveAt : Type 0 where
  pub line : ℕ
  pub command : Directive

abbrev pub directives_of : ℕ → BodyCommand → List DirectiveAt
directives_of line (body.Directive directive) = (record { line = line; command = directive }) ∷ []
directives_of line _ = []

abbrev pub directives_in : List BodyStatement → List DirectiveAt
directives_in [] = []
directives_in (statement ∷ rest) = directives_of statement.line statement.command ++ directives_in rest

abbrev pub item_directives : ℕ → ItemCommand → List DirectiveAt
item_directives line (item.Directive directive) = (record { line = line; command = directive }) ∷ []
item_directives line (item.Section section) = directives_in section.body
item_directives line _ = []

abbrev pub items_directives : List Item → List DirectiveAt
items_directives [] = []
items_directives (first ∷ rest) = item_directives first.line first.command ++ items_directives rest

abbrev pub top_directives : ℕ → Command → List DirectiveAt
top_directives line (top.Directive directive) = (record { line = line; command = directive }) ∷ []
top_directives line (top.Sections items) = items_directives items
top_directives line _ = []

-- all assignments of symbols, PROVIDEs and ASSERTs: outside of SECTIONS, in it, and in output sections
abbrev pub all_directives : List Statement → List DirectiveAt
all_directives [] = []
all_directives (statement ∷ rest) = top_directives statement.line statement.command ++ all_directives rest

-- NAME = e or PROVIDE(NAME = e), and its line
pub record AssignmentAt : Type 0 where
  pub line : ℕ
  pub assignment : Assignment

abbrev pub assigned_by : ℕ → Directive → List AssignmentAt
assigned_by line (directives.Assign assignment) = (record { line = line; assignment = assignment }) ∷ []
assigned_by line _ = []

abbrev pub assigned_in : List DirectiveAt → List AssignmentAt
assigned_in [] = []
assigned_in (directive ∷ rest) = assigned_by directive.line directive.command ++ assigned_in rest

-- the assignments of symbols
abbrev pub assignments : List Statement → List AssignmentAt
assignments statements = assigned_in (all_directives statements)

abbrev pub provided_by : ℕ → Directive → List AssignmentAt
provided_by line (directives.Provide assignment) = (record { line = line; assignment = assignment }) ∷ []
provided_by line _ = []

abbrev pub provided_in : List DirectiveAt → List AssignmentAt
provided_in [] = []
provided_in (directive ∷ rest) = provided_by directive.line directive.command ++ provided_in rest

-- the PROVIDEs
abbrev pub provides : List Statement → List AssignmentAt
provides statements = provided_in (all_directives statements)

-- ASSERT(e, "message"), and its line
pub record AssertionAt : Type 0 where
  pub line : ℕ
  pub assertion : Assertion

abbrev pub asserted_by : ℕ → Directive → List AssertionAt
asserted_by line (directives.Assert assertion) = (record { line = line; assertion = assertion }) ∷ []
asserted_by line _ = []

abbrev pub asserted_in : List DirectiveAt → List AssertionAt
asserted_in [] = []
asserted_in (directive ∷ rest) = asserted_by directive.line directive.command ++ asserted_in rest

-- the ASSERTs
abbrev pub asserts : List Statement → List AssertionAt
asserts statements = asserted_in (all_directives statements)

-- the memory regions
abbrev pub regions_in : Command → List Region
regions_in (top.Memory regions) = regions
regions_in _ = []

abbrev pub regions : List Statement → List Region
regions [] = []
regions (statement ∷ rest) = regions_in statement.command ++ regions rest

abbrev pub or_later : Command → Option (List ℕ) → Option (List ℕ)
or_later (top.Entry name) later = Some name
or_later _ later = later

-- the name that ENTRY gives, the first one
abbrev pub entry_of : List Statement → Option (List ℕ)
entry_of [] = None
entry_of (statement ∷ rest) = or_later statement.command (entry_of rest)
