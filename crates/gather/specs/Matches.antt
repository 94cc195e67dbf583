-- The statements that take the sections of an object.
use Rattle.std.specs.Prelude.{ℕ, List, map, Option}
use Rattle.std.specs.Option.{option_map}
use Rattle.elfobj.specs.Sections.{LinkedSection}
use Rattle.ldscript.specs.statements.declared.statement.Statement.{Statement}
use Rattle.ldmodel.specs.FirstMatch.{first_match}
use Rattle.ldmodel.specs.declared.rows.InputIndex.{InputIndex}

-- the number of a statement, if there is one
abbrev pub number_of : Option InputIndex → Option ℕ
number_of i = option_map (λ (n : InputIndex). n.0) i

-- of each section the number of the statement that takes it
abbrev pub matches_of : List Statement → (file : List ℕ) → List LinkedSection → List (Option ℕ)
matches_of script file sections = map (first_match script file) (map (λ (s : LinkedSection). s.name) sections)
