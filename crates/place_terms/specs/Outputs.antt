-- The output sections of a script, one after another.
use Rattle.std.specs.Prelude.{◌≡◌, ℕ, ◌≤◌, List, length, Some, slice_get}
use Rattle.ldscript.specs.statements.Numbering.{output_sections}
use Rattle.ldscript.specs.statements.declared.section.OutputSection.{OutputSection}
use Rattle.ldscript.specs.statements.declared.statement.Statement.{Statement}
use Rattle.ldmodel.specs.declared.rows.Piece.{Piece}
use Rattle.place_terms.specs.PreviousLayout.{PreviousOutputs, HasSection}
use Rattle.place_terms.specs.Keyed.{KeyedSection}
use Rattle.place_terms.specs.Wholes.{all_data_in, starts_in}

-- output sections in their places, of a script, with how many of them were placed anew, and those of a previous layout
pub record Outputs : Type 0 where
  pub script : List Statement
  pub earlier : PreviousOutputs
  pub list : List KeyedSection
  pub placed : ℕ

-- the output section of a number
pub record IsOutput (script : List Statement) (number : ℕ) (output : OutputSection) : Type 0 where
  pub line : ℕ
  pub is : slice_get (output_sections script) number ≡ Some (record { line = line; section = output })

-- none was placed anew, and the previous layout has the next one; its input sections are the first entries of the row,
-- and with its data commands there are this many
pub record HasNext (o : Outputs) (row : List Piece) (data_end : ℕ) : Type 0 where
  pub first : o.placed ≡ 0
  pub section : HasSection o.earlier (length o.list) (length (starts_in o.list)) row
  pub begun : length (all_data_in 0 o.list) ≤ data_end
  pub within : data_end ≤ length o.earlier.data_commands
