-- The names of a script's expressions as the code lists them, and parts of the definition's list.
use Rattle.std.specs.Prelude.{◌≡◌, ℕ, List, ◌++◌, map, flat_map}
use Rattle.std.specs.Borrow.{Bor}
use Rattle.ldscript.specs.statements.declared.section.BodyStatement.{BodyStatement}
use Rattle.ldscript.specs.statements.declared.section.Load.{Load}
use Rattle.ldscript.specs.statements.declared.statement.Item.{Item}
use Rattle.ldscript.specs.statements.declared.statement.Region.{Region}
use Rattle.ldmodel.specs.Mentioned.{in_body_command, in_expression, in_item, in_optional}
use Rattle.ldmodel.specs.Placement.{given_load}

-- names that the code lends
abbrev pub shown_names : List (Bor (List ℕ)) → List (List ℕ)
shown_names names = map (λ (n : Bor (List ℕ)). n.now) names

-- the new list has these after the old one
abbrev pub Adds : List (Bor (List ℕ)) → List (Bor (List ℕ)) → List (List ℕ) → Type 0
Adds old new these = shown_names new ≡ shown_names old ++ these

abbrev pub in_load : Load → List (List ℕ)
in_load l = in_optional (given_load l)

abbrev pub in_body : List BodyStatement → List (List ℕ)
in_body body = flat_map (λ (s : BodyStatement). in_body_command s.command) body

abbrev pub in_items : List Item → List (List ℕ)
in_items items = flat_map (λ (i : Item). in_item i.command) items

abbrev pub in_regions : List Region → List (List ℕ)
in_regions regions = flat_map (λ (r : Region). in_expression r.origin ++ in_expression r.extent) regions
