-- The names that a script gives values to (GNU ld manual, "Assigning Values to Symbols", "PROVIDE"). No name is given a
-- value twice in one script that the script reader takes; on another tree the lists of names and the tests of a name
-- need not agree.
use Rattle.std.specs.Prelude.{ℕ, List, map, Option, Some, None, Bool, true, false}
use Rattle.ldscript.specs.statements.Given.{given_by}
use Rattle.ldscript.specs.statements.Numbering.{AssignmentAt, assignments, provides}
use Rattle.ldscript.specs.statements.declared.given.Given.{Given}
use Rattle.ldscript.specs.statements.declared.given.Given.TheVariants.{Assigned, Provided}
use Rattle.ldscript.specs.statements.declared.statement.Statement.{Statement}

abbrev pub is_assignment : Option Given → Bool
is_assignment (Some (Assigned n)) = true
is_assignment (Some (Provided n)) = false
is_assignment None = false

abbrev pub is_provision : Option Given → Bool
is_provision (Some (Assigned n)) = false
is_provision (Some (Provided n)) = true
is_provision None = false

-- `NAME = e` gives the name its value
abbrev pub is_assigned : List Statement → List ℕ → Bool
is_assigned script name = is_assignment (given_by script name)

-- `PROVIDE(NAME = e)` gives the name its value, where it is in force
abbrev pub is_provided : List Statement → List ℕ → Bool
is_provided script name = is_provision (given_by script name)

-- the names that are assigned, in the order of the text
unfoldable pub assigned_names : List Statement → List (List ℕ)
assigned_names script = map (λ (entry : AssignmentAt). entry.assignment.name) (assignments script)

-- the names that are provided, in the order of the text
unfoldable pub provided_names : List Statement → List (List ℕ)
provided_names script = map (λ (entry : AssignmentAt). entry.assignment.name) (provides script)
