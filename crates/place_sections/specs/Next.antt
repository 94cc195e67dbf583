-- The output sections of a script among the statements of its SECTIONS.
use Rattle.std.specs.Prelude.{◌≡◌, ℕ, List, ◌++◌, ⊤, Some, slice_get}
use Rattle.ldscript.specs.statements.Numbering.{OutputSectionAt, output_sections, sections_in}
use Rattle.ldscript.specs.statements.declared.statement.Item.{Item}
use Rattle.ldscript.specs.statements.declared.statement.ItemCommand.{ItemCommand}
use Rattle.ldscript.specs.statements.declared.statement.ItemCommand.TheVariants as item
use Rattle.ldscript.specs.statements.declared.statement.Statement.{Statement}
use Rattle.place_terms.specs.Outputs.{IsOutput}

-- those of a script are those of these statements, and others after them
pub record AreFirst (script : List Statement) (items : List Item) : Type 0 where
  pub later : List OutputSectionAt
  pub all : output_sections script ≡ sections_in items ++ later

-- where a statement is an output section, it is the one of this number
abbrev pub IsNext : List Statement → ℕ → ItemCommand → Type 0
IsNext script number (item.Section o) = IsOutput script number o
IsNext script number (item.Dot c) = ⊤
IsNext script number (item.Directive c) = ⊤
IsNext script number (item.Discard inputs) = ⊤

-- the same of the statement at a place
abbrev pub IsNextAt : List Statement → ℕ → List Item → ℕ → Type 0
IsNextAt script number items place = (x : Item) → slice_get items place ≡ Some x → IsNext script number x.command
