-- What a script does with names, in the order of the text, and what it may not give twice or name too early.
use Rattle.std.specs.Prelude.{◌≡◌, ℕ, List, [], ◌∷◌, ◌++◌, Option, Some, None}
use Rattle.std.specs.List.{Contains}
use Rattle.ldscript_terms.specs.Expressions.{Expr, Number, Dot, Name, Unary, Binary, Choice, OfRegion, OfSection}
use Rattle.ldscript_terms.specs.Expressions.{AlignDot}
use Rattle.ldscript_terms.specs.Expressions.{Align}
use Rattle.ldscript_statements.specs.declared.section.BodyCommand.{BodyCommand}
use Rattle.ldscript_statements.specs.declared.section.BodyCommand.TheVariants as body
use Rattle.ldscript_statements.specs.declared.section.BodyStatement.{BodyStatement}
use Rattle.ldscript_statements.specs.declared.section.Load.{Load}
use Rattle.ldscript_statements.specs.declared.section.Load.TheVariants.{Unstated, At, InRegion}
use Rattle.ldscript_statements.specs.declared.section.OutputSection.{OutputSection}
use Rattle.ldscript_statements.specs.declared.directive.Assignment.{Assignment}
use Rattle.ldscript_statements.specs.declared.directive.Directive.{Directive}
use Rattle.ldscript_statements.specs.declared.directive.Directive.TheVariants as directives
use Rattle.ldscript_statements.specs.declared.directive.DotCommand.{DotCommand}
use Rattle.ldscript_statements.specs.declared.directive.DotCommand.TheVariants.{Set, Add}
use Rattle.ldscript_statements.specs.declared.statement.Region.{Region}
use Rattle.ldscript_statements.specs.declared.statement.ItemCommand.{ItemCommand}
use Rattle.ldscript_statements.specs.declared.statement.ItemCommand.TheVariants as item
use Rattle.ldscript_statements.specs.declared.statement.Item.{Item}
use Rattle.ldscript_statements.specs.declared.statement.Command.{Command}
use Rattle.ldscript_statements.specs.declared.statement.Command.TheVariants as top
use Rattle.ldscript_statements.specs.declared.statement.Statement.{Statement}

-- ENTRY, MEMORY or SECTIONS; an output section of this name; a symbol assigned or provided; a region of which the whole
-- declaration stands here; a region that is named here
pub data Mention : Type 0 where
  EntryGiven : Mention
  MemoryGiven : Mention
  SectionsGiven : Mention
  SectionNamed : (name : List ℕ) → Mention
  SymbolGiven : (name : List ℕ) → Mention
  RegionDeclared : (name : List ℕ) → Mention
  RegionUsed : (name : List ℕ) → Mention

-- the regions of ORIGIN(r) and LENGTH(r), from left to right
abbrev pub regions_of : Expr → List (List ℕ)
regions_of (Number value) = []
regions_of Dot = []
regions_of (Name name) = []
regions_of (Unary operator a) = regions_of a
regions_of (Binary operator a b) = regions_of a ++ regions_of b
regions_of (Choice test a b) = regions_of test ++ regions_of a ++ regions_of b
regions_of (OfRegion query name) = name ∷ []
regions_of (OfSection query name) = []
regions_of (AlignDot a) = regions_of a
regions_of (Align a b) = regions_of a ++ regions_of b

abbrev pub used : List (List ℕ) → List Mention
used [] = []
used (name ∷ rest) = RegionUsed name ∷ used rest

-- ORIGIN(r) and LENGTH(r) in an expression
abbrev pub in_expression : Expr → List Mention
in_expression expression = used (regions_of expression)

abbrev pub in_optional : Option Expr → List Mention
in_optional None = []
in_optional (Some expression) = in_expression expression

abbrev pub in_assignment : Assignment → List Mention
in_assignment assignment = SymbolGiven assignment.name ∷ in_expression assignment.value

abbrev pub in_directive : Directive → List Mention
in_directive (directives.Assign assignment) = in_assignment assignment
in_directive (directives.Provide assignment) = in_assignment assignment
in_directive (directives.Assert assertion) = in_expression assertion.condition

abbrev pub in_dot_command : DotCommand → List Mention
in_dot_command (Set expression) = in_expression expression
in_dot_command (Add expression) = in_expression expression

abbrev pub in_body_command : BodyCommand → List Mention
in_body_command (body.Dot command) = in_dot_command command
in_body_command (body.Directive directive) = in_directive directive
in_body_command (body.Data width expression) = in_expression expression
in_body_command (body.Input input) = []

abbrev pub in_body : List BodyStatement → List Mention
in_body [] = []
in_body (statement ∷ rest) = in_body_command statement.command ++ in_body rest

abbrev pub in_region_name : Option (List ℕ) → List Mention
in_region_name None = []
in_region_name (Some name) = RegionUsed name ∷ []

abbrev pub in_load_head : Load → List Mention
in_load_head Unstated = []
in_load_head (At expression) = in_expression expression
in_load_head (InRegion region) = []

abbrev pub in_load_tail : Load → List Mention
in_load_tail Unstated = []
in_load_tail (At expression) = []
in_load_tail (InRegion region) = RegionUsed region ∷ []

abbrev pub in_section : OutputSection → List Mention
in_section section =
    SectionNamed section.name ∷ (in_optional section.address ++ in_load_head section.load
    ++ in_optional section.alignment ++ in_body section.body
    ++ in_region_name section.region ++ in_load_tail section.load)

abbrev pub in_item_command : ItemCommand → List Mention
in_item_command (item.Dot command) = in_dot_command command
in_item_command (item.Directive directive) = in_directive directive
in_item_command (item.Section section) = in_section section
in_item_command (item.Discard inputs) = []

abbrev pub in_items : List Item → List Mention
in_items [] = []
in_items (first ∷ rest) = in_item_command first.command ++ in_items rest

-- a region is declared behind its LENGTH
abbrev pub in_regions : List Region → List Mention
in_regions [] = []
in_regions (region ∷ rest) =
    in_expression region.origin ++ in_expression region.extent ++ RegionDeclared region.name ∷ in_regions rest

abbrev pub in_top_command : Command → List Mention
in_top_command (top.Entry name) = EntryGiven ∷ []
in_top_command (top.Memory regions) = MemoryGiven ∷ in_regions regions
in_top_command (top.Sections items) = SectionsGiven ∷ in_items items
in_top_command (top.Directive directive) = in_directive directive

abbrev pub mentions : List Statement → List Mention
mentions [] = []
mentions (statement ∷ rest) = in_top_command statement.command ++ mentions rest

-- what may not stand behind these: the same once more, or the use of a region that none of them declares
abbrev pub Clashes : List Mention → Mention → Type 0
Clashes before (RegionUsed name) = Contains before (RegionDeclared name) → ⊥
Clashes before EntryGiven = Contains before EntryGiven
Clashes before MemoryGiven = Contains before MemoryGiven
Clashes before SectionsGiven = Contains before SectionsGiven
Clashes before (SectionNamed name) = Contains before (SectionNamed name)
Clashes before (SymbolGiven name) = Contains before (SymbolGiven name)
Clashes before (RegionDeclared name) = Contains before (RegionDeclared name)

-- something is given twice, or a region is named before it is declared
pub record HasClash (statements : List Statement) : Type 0 where
  pub before : List Mention
  pub mention : Mention
  pub after : List Mention
  pub place : mentions statements ≡ before ++ mention ∷ after
  pub clash : Clashes before mention
