-- The PROVIDEs that are in force, among some commands of a script.
use Rattle.std.specs.Prelude.{◌≡◌, ℕ, List, [], ◌∷◌, ◌++◌, map, filter, Bool, false, if◌then◌else◌}
use Rattle.ldscript.specs.statements.Numbering.{AssignmentAt, DirectiveAt, provided_in}
use Rattle.ldscript.specs.statements.declared.directive.Directive.{Directive}
use Rattle.ldscript.specs.statements.declared.directive.Directive.TheVariants as directive
use Rattle.ldmodel.specs.Names.{decision, is_provided_case}
use Rattle.ldmodel.specs.Project.{Project}
use Rattle.ldmodel.specs.declared.script_symbol.DirectiveIndex.{DirectiveIndex}

-- whether a command is a PROVIDE that is in force
abbrev pub in_force : Project → Directive → Bool
in_force project (directive.Assign a) = false
in_force project (directive.Provide a) = is_provided_case (decision project a.name)
in_force project (directive.Assert a) = false

-- the names of those in force among these commands
abbrev pub names_in_force : Project → List DirectiveAt → List (List ℕ)
names_in_force project commands =
    filter (λ name. is_provided_case (decision project name))
    (map (λ (a : AssignmentAt). a.assignment.name) (provided_in commands))

-- the number of a command comes after those that are there, if the command is a PROVIDE in force
abbrev pub AddsIfInForce : Project → ℕ → Directive → (old new : List DirectiveIndex) → Type 0
AddsIfInForce project n command old new =
    new ≡ old ++ (if in_force project command then (record { 0 = n }) ∷ [] else [])
