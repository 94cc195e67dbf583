-- What a previous layout tells of the present one, whose rows are the same before a number.
use Rattle.std.specs.Prelude.{◌≡◌, ℕ, ◌<◌, List, [], length, slice_index_or}
use Rattle.ldscript.specs.statements.Numbering.{output_sections, sections_in}
use Rattle.ldscript.specs.statements.declared.statement.Item.{Item}
use Rattle.ldscript.specs.statements.declared.statement.Statement.{Statement}
use Rattle.ldmodel.specs.Chain.{run}
use Rattle.ldmodel.specs.Layout.{Layout}
use Rattle.ldmodel.specs.Placement.{item_step, statement_step}
use Rattle.ldmodel.specs.Rows.{Piece}
use Rattle.place_terms.specs.Naming.{Naming}
use Rattle.place_sections.specs.Boundaries.{AreBoundaries, AreBoundariesOf}
use Rattle.place_sections.specs.Inputs.{rows_of}
use Rattle.place_sections.specs.Leads.{Leads}
use Rattle.place_sections.specs.declared.script.Input.{Input}

-- rows are the same before a number
abbrev pub Same : ℕ → List (List Piece) → List (List Piece) → Type 0
Same first earlier rows = (k : ℕ) → k < first → slice_index_or earlier k [] ≡ slice_index_or rows k []

-- with earlier rows, the same before the number, the statements of SECTIONS come to a layout with which the kept one
-- begins, and the boundaries are theirs, one before each output section and one more
pub record PreviousPlacement (n : Naming) (i : Input) (script : List Statement) (layout : Layout)
    (items : List Item) : Type 0 where
  pub rows : List (List Piece)
  pub same : Same i.kept.first rows (rows_of n i)
  pub leads : Leads script i.kept (run (item_step rows i.provided.now) layout items)
  pub boundaries : AreBoundaries rows i.provided.now layout items i.kept.boundaries.now
  pub many : length (sections_in items) < length i.kept.boundaries.now

-- the same of all statements of a script
pub record EarlierScript (n : Naming) (i : Input) (script : List Statement) (layout : Layout)
    (statements : List Statement)
    : Type 0 where
  pub rows : List (List Piece)
  pub same : Same i.kept.first rows (rows_of n i)
  pub leads : Leads script i.kept (run (statement_step rows i.provided.now) layout statements)
  pub boundaries : AreBoundariesOf rows i.provided.now layout statements i.kept.boundaries.now
  pub many : length (output_sections statements) < length i.kept.boundaries.now
