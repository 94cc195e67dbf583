-- The names that the expressions of a script mention (GNU ld manual, "Expressions in Linker Scripts"), in the order of
-- the text: symbols, output sections and regions.
use Rattle.std.specs.Prelude.{ℕ, List, [], ◌∷◌, ◌++◌, flat_map, Option, Some, None}
use Rattle.ldscript.specs.terms.Expressions.{Expr, Number, Dot, Name, Unary, Binary, Choice, OfRegion, OfSection}
use Rattle.ldscript.specs.terms.Expressions.{AlignDot}
use Rattle.ldscript.specs.terms.Expressions.{Align}
use Rattle.ldscript.specs.statements.declared.directive.Directive.{Directive}
use Rattle.ldscript.specs.statements.declared.directive.Directive.TheVariants as directive
use Rattle.ldscript.specs.statements.declared.directive.DotCommand.{DotCommand}
use Rattle.ldscript.specs.statements.declared.directive.DotCommand.TheVariants.{Set, Add}
use Rattle.ldscript.specs.statements.declared.section.BodyCommand.{BodyCommand}
use Rattle.ldscript.specs.statements.declared.section.BodyCommand.TheVariants as body
use Rattle.ldscript.specs.statements.declared.section.BodyStatement.{BodyStatement}
use Rattle.ldscript.specs.statements.declared.section.OutputSection.{OutputSection}
use Rattle.ldscript.specs.statements.declared.statement.Command.{Command}
use Rattle.ldscript.specs.statements.declared.statement.Command.TheVariants as top
use Rattle.ldscript.specs.statements.declared.statement.Item.{Item}
use Rattle.ldscript.specs.statements.declared.statement.ItemCommand.{ItemCommand}
use Rattle.ldscript.specs.statements.declared.statement.ItemCommand.TheVariants as item
use Rattle.ldscript.specs.statements.declared.statement.Region.{Region}
use Rattle.ldscript.specs.statements.declared.statement.Statement.{Statement}
use Rattle.ldmodel.specs.Placement.{given_load}

abbrev pub in_expression : Expr → List (List ℕ)
in_expression (Number n) = []
in_expression Dot = []
in_expression (Name n) = n ∷ []
in_expression (Unary o a) = in_expression a
in_expression (Binary o a b) = in_expression a ++ in_expression b
in_expression (Choice t a b) = in_expression t ++ in_expression a ++ in_expression b
in_expression (OfRegion q n) = n ∷ []
in_expression (OfSection q n) = n ∷ []
in_expression (AlignDot a) = in_expression a
in_expression (Align a b) = in_expression a ++ in_expression b

abbrev pub in_optional : Option Expr → List (List ℕ)
in_optional None = []
in_optional (Some e) = in_expression e

abbrev pub in_directive : Directive → List (List ℕ)
in_directive (directive.Assign a) = in_expression a.value
in_directive (directive.Provide a) = in_expression a.value
in_directive (directive.Assert a) = in_expression a.condition

abbrev pub in_dot_command : DotCommand → List (List ℕ)
in_dot_command (Set e) = in_expression e
in_dot_command (Add e) = in_expression e

abbrev pub in_body_command : BodyCommand → List (List ℕ)
in_body_command (body.Dot c) = in_dot_command c
in_body_command (body.Directive c) = in_directive c
in_body_command (body.Data w e) = in_expression e
in_body_command (body.Input i) = []

abbrev pub in_section : OutputSection → List (List ℕ)
in_section o =
    in_optional o.address ++ in_optional (given_load o.load) ++ in_optional o.alignment
    ++ flat_map (λ (s : BodyStatement). in_body_command s.command) o.body

abbrev pub in_item : ItemCommand → List (List ℕ)
in_item (item.Dot c) = in_dot_command c
in_item (item.Directive c) = in_directive c
in_item (item.Section o) = in_section o
in_item (item.Discard inputs) = []

abbrev pub in_command : Command → List (List ℕ)
in_command (top.Entry n) = []
in_command (top.Memory regions) = flat_map (λ (r : Region). in_expression r.origin ++ in_expression r.extent) regions
in_command (top.Sections items) = flat_map (λ (i : Item). in_item i.command) items
in_command (top.Directive c) = in_directive c

unfoldable pub mentioned_names : List Statement → List (List ℕ)
mentioned_names script = flat_map (λ (statement : Statement). in_command statement.command) script
