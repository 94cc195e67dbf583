-- The number of the command that gives a symbol its value.
use Rattle.std.specs.Prelude.{◌≡◌, ℕ, List, Bool, true, false, Option, Some, slice_get, bytes_eq}
use Rattle.std.specs.Option.{option_map, option_map_or}
use Rattle.ldscript.specs.Script.{IsSound}
use Rattle.ldscript.specs.statements.Given.{given_by}
use Rattle.ldscript.specs.statements.Numbering.{DirectiveAt, all_directives}
use Rattle.ldscript.specs.statements.declared.directive.Directive.{Directive}
use Rattle.ldscript.specs.statements.declared.directive.Directive.TheVariants as directive
use Rattle.ldscript.specs.statements.declared.given.Given.{Given}
use Rattle.ldscript.specs.statements.declared.given.Given.TheVariants.{Assigned, Provided}
use Rattle.ldscript.specs.statements.declared.statement.Statement.{Statement}

-- the number of a command among the directives
abbrev pub number_of : Given → ℕ
number_of (Assigned k) = k
number_of (Provided k) = k

-- the number of the command that gives a symbol its value
abbrev pub symbol_number : List Statement → List ℕ → Option ℕ
symbol_number script name = option_map number_of (given_by script name)

-- the command gives the symbol of a name its value
abbrev pub gives : Directive → List ℕ → Bool
gives (directive.Assign a) name = bytes_eq name a.name
gives (directive.Provide a) name = bytes_eq name a.name
gives (directive.Assert a) name = false

-- the one of a number does
abbrev pub gives_at : List DirectiveAt → ℕ → List ℕ → Bool
gives_at commands number name = option_map_or (λ (c : DirectiveAt). gives c.command name) (slice_get commands number)
    false

-- these are all the directives of a script in which nothing is given twice
pub record AreCommandsOf (script : List Statement) (commands : List DirectiveAt) : Type 0 where
  pub sound : IsSound script
  pub all : commands ≡ all_directives script

-- a symbol that one of these gives its value is found under the number of that command
abbrev pub AreNumbered : List Statement → List DirectiveAt → Type 0
AreNumbered script commands =
    (number : ℕ) (name : List ℕ) → gives_at commands number name ≡ true → symbol_number script name ≡ Some number
