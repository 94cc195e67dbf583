-- Which command gives a name, which output section or memory region has it, and the symbols that an expression names.
use Rattle.std.specs.Prelude.{ℕ, suc, List, [], ◌∷◌, ◌++◌, Option, Some, None, bytes_eq, if◌then◌else◌}
use Rattle.ldscript_terms.specs.Expressions.{Expr, Number, Dot, Name, Unary, Binary, Choice, OfRegion, OfSection}
use Rattle.ldscript_terms.specs.Expressions.{AlignDot}
use Rattle.ldscript_terms.specs.Expressions.{Align}
use Rattle.ldscript_statements.specs.declared.directive.Directive.{Directive}
use Rattle.ldscript_statements.specs.declared.directive.Directive.TheVariants as directives
use Rattle.ldscript_statements.specs.declared.given.Given.{Given}
use Rattle.ldscript_statements.specs.declared.given.Given.TheVariants.{Assigned, Provided}
use Rattle.ldscript_statements.specs.declared.statement.Region.{Region}
use Rattle.ldscript_statements.specs.declared.statement.Statement.{Statement}
use Rattle.ldscript_statements.specs.Numbering.{OutputSectionAt, DirectiveAt, all_directives, output_sections, regions}

-- the number of a command, if it assigns the name, else what later ones give
abbrev pub assigned_here : ℕ → Directive → List ℕ → Option ℕ → Option ℕ
assigned_here number (directives.Assign assignment) name later =
    if bytes_eq name assignment.name then Some number else later
assigned_here number (directives.Provide assignment) name later = later
assigned_here number (directives.Assert assertion) name later = later

abbrev pub assigned_from : ℕ → List DirectiveAt → List ℕ → Option ℕ
assigned_from number [] name = None
assigned_from number (directive ∷ rest) name =
    assigned_here number directive.command name (assigned_from (suc number) rest name)

abbrev pub provided_here : ℕ → Directive → List ℕ → Option ℕ → Option ℕ
provided_here number (directives.Assign assignment) name later = later
provided_here number (directives.Provide assignment) name later =
    if bytes_eq name assignment.name then Some number else later
provided_here number (directives.Assert assertion) name later = later

abbrev pub provided_from : ℕ → List DirectiveAt → List ℕ → Option ℕ
provided_from number [] name = None
provided_from number (directive ∷ rest) name =
    provided_here number directive.command name (provided_from (suc number) rest name)

abbrev pub given_as : Option ℕ → Option ℕ → Option Given
given_as (Some number) provided = Some (Assigned number)
given_as None (Some number) = Some (Provided number)
given_as None None = None

-- the command that assigns or provides a name, by its number among `all_directives`; a script without a clash has one
-- at most
abbrev pub given_by : List Statement → List ℕ → Option Given
given_by statements name =
    given_as (assigned_from 0 (all_directives statements) name) (provided_from 0 (all_directives statements) name)

abbrev pub section_from : ℕ → List OutputSectionAt → List ℕ → Option ℕ
section_from number [] name = None
section_from number (first ∷ rest) name =
    if bytes_eq name first.section.name then Some number else section_from (suc number) rest name

-- the number of the output section of a name
abbrev pub section_number : List Statement → List ℕ → Option ℕ
section_number statements name = section_from 0 (output_sections statements) name

abbrev pub region_from : ℕ → List Region → List ℕ → Option ℕ
region_from number [] name = None
region_from number (region ∷ rest) name =
    if bytes_eq name region.name then Some number else region_from (suc number) rest name

-- the number of the memory region of a name
abbrev pub region_number : List Statement → List ℕ → Option ℕ
region_number statements name = region_from 0 (regions statements) name

-- the symbols that an expression names, from left to right
abbrev pub expression_symbols : Expr → List (List ℕ)
expression_symbols (Number value) = []
expression_symbols Dot = []
expression_symbols (Name name) = name ∷ []
expression_symbols (Unary operator a) = expression_symbols a
expression_symbols (Binary operator a b) = expression_symbols a ++ expression_symbols b
expression_symbols (Choice test a b) = expression_symbols test ++ expression_symbols a ++ expression_symbols b
expression_symbols (OfRegion query name) = []
expression_symbols (OfSection query name) = []
expression_symbols (AlignDot a) = expression_symbols a
expression_symbols (Align a b) = expression_symbols a ++ expression_symbols b
