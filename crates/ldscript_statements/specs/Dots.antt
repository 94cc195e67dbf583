-- Uses of `.` that the profile does not have.
use Rattle.std.specs.Prelude.{List, Bool, false, ◌||◌, is_none}
use Rattle.std.specs.List.{list_any}
use Rattle.ldscript_terms.specs.Expressions.{Expr, has_dot, has_align_dot}
use Rattle.ldscript_terms.specs.DotForms.{dot_form}
use Rattle.ldscript_statements.specs.declared.directive.Directive.{Directive}
use Rattle.ldscript_statements.specs.declared.directive.Directive.TheVariants as directives
use Rattle.ldscript_statements.specs.declared.directive.DotCommand.{DotCommand}
use Rattle.ldscript_statements.specs.declared.directive.DotCommand.TheVariants.{Set, Add}
use Rattle.ldscript_statements.specs.declared.section.BodyCommand.{BodyCommand}
use Rattle.ldscript_statements.specs.declared.section.BodyCommand.TheVariants as body
use Rattle.ldscript_statements.specs.declared.section.BodyStatement.{BodyStatement}
use Rattle.ldscript_statements.specs.declared.statement.Region.{Region}
use Rattle.ldscript_statements.specs.declared.statement.ItemCommand.{ItemCommand}
use Rattle.ldscript_statements.specs.declared.statement.ItemCommand.TheVariants as item
use Rattle.ldscript_statements.specs.declared.statement.Item.{Item}
use Rattle.ldscript_statements.specs.declared.statement.Command.{Command}
use Rattle.ldscript_statements.specs.declared.statement.Command.TheVariants as top
use Rattle.ldscript_statements.specs.declared.statement.Statement.{Statement}

-- `.`, or an ALIGN of one argument, which stands for one with `.`
abbrev pub uses_dot : Expr → Bool
uses_dot expression = has_dot expression || has_align_dot expression

-- a `.` or such an ALIGN in an ASSERT
abbrev pub assert_misplaces : Directive → Bool
assert_misplaces (directives.Assign assignment) = false
assert_misplaces (directives.Provide assignment) = false
assert_misplaces (directives.Assert assertion) = uses_dot assertion.condition

-- a `.` or such an ALIGN in the expression of a command
abbrev pub directive_uses_dot : Directive → Bool
directive_uses_dot (directives.Assign assignment) = uses_dot assignment.value
directive_uses_dot (directives.Provide assignment) = uses_dot assignment.value
directive_uses_dot (directives.Assert assertion) = uses_dot assertion.condition

-- `.` is set to what it may not be set to in an output section
abbrev pub dot_misplaces : DotCommand → Bool
dot_misplaces (Set expression) = is_none (dot_form expression)
dot_misplaces (Add expression) = false

abbrev pub body_command_misplaces : BodyCommand → Bool
body_command_misplaces (body.Dot command) = dot_misplaces command
body_command_misplaces (body.Directive directive) = assert_misplaces directive
body_command_misplaces (body.Data width expression) = false
body_command_misplaces (body.Input input) = false

abbrev pub body_misplaces : BodyStatement → Bool
body_misplaces statement = body_command_misplaces statement.command

abbrev pub item_command_misplaces : ItemCommand → Bool
item_command_misplaces (item.Dot command) = false
item_command_misplaces (item.Directive directive) = assert_misplaces directive
item_command_misplaces (item.Section section) = list_any body_misplaces section.body
item_command_misplaces (item.Discard inputs) = false

abbrev pub item_misplaces : Item → Bool
item_misplaces entry = item_command_misplaces entry.command

-- a `.` or such an ALIGN in a region
abbrev pub region_misplaces : Region → Bool
region_misplaces region = uses_dot region.origin || uses_dot region.extent

abbrev pub top_command_misplaces : Command → Bool
top_command_misplaces (top.Entry name) = false
top_command_misplaces (top.Memory regions) = list_any region_misplaces regions
top_command_misplaces (top.Sections items) = list_any item_misplaces items
top_command_misplaces (top.Directive directive) = directive_uses_dot directive

abbrev pub top_misplaces : Statement → Bool
top_misplaces statement = top_command_misplaces statement.command

-- a use of `.` that the profile does not have
abbrev pub has_misplaced_dot : List Statement → Bool
has_misplaced_dot statements = list_any top_misplaces statements
