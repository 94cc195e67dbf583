-- What a layout is made from: the rows, and input statements.
use Rattle.std.specs.Prelude.{ℕ, List, length, map}
use Rattle.ldscript.specs.statements.declared.statement.ItemCommand.{ItemCommand}
use Rattle.ldscript.specs.statements.declared.statement.ItemCommand.TheVariants as item
use Rattle.ldmodel.specs.Rows.{Piece}
use Rattle.place_terms.specs.Naming.{Naming, rows_named}
use Rattle.place_sections.specs.declared.script.Input.{Input}

abbrev pub rows_of : Naming → Input → List (List Piece)
rows_of n i = rows_named n (map (λ v. v.items) i.rows.now)

-- how many input statements a statement of SECTIONS has at most
abbrev pub inputs_at_most : ItemCommand → ℕ
inputs_at_most (item.Section o) = length o.body
inputs_at_most (item.Discard inputs) = length inputs
inputs_at_most (item.Dot c) = 0
inputs_at_most (item.Directive c) = 0
