-- Where a layout had come to before its output sections, and after the last statement of SECTIONS.
use Rattle.std.specs.Prelude.{◌≡◌, ℕ, List, [], length, take, Ok, slice_get, Some, flat_map, ◌⊎◌}
use Rattle.std.specs.List.{enumerate_from}
use Rattle.std.specs.Option.{option_map_or}
use Rattle.ldscript.specs.statements.Numbering.{OutputSectionAt, item_sections}
use Rattle.ldscript.specs.statements.declared.statement.Item.{Item}
use Rattle.ldscript.specs.statements.declared.statement.Statement.{Statement}
use Rattle.ldmodel.specs.Chain.{run}
use Rattle.ldmodel.specs.Layout.{Layout, PlacedOutput}
use Rattle.ldmodel.specs.PlacementView.{NumberedData, numbered}
use Rattle.ldmodel.specs.Placement.{item_step, statement_step}
use Rattle.ldmodel.specs.Rows.{Piece}
use Rattle.place_sections.specs.Parts.{before_sections, items_within}
use Rattle.place_sections.specs.declared.boundary.Boundary.{Boundary}

-- the data commands of output sections, with the numbers of these
abbrev pub data_in : List PlacedOutput → List NumberedData
data_in sections = flat_map numbered (enumerate_from 0 sections)

-- the numbers of a layout
pub record IsAt (b : Boundary) (layout : Layout) : Type 0 where
  pub dot : b.dot ≡ layout.dot
  pub dots : b.dots ≡ length layout.dots
  pub inputs : b.inputs ≡ layout.inputs
  pub symbols : b.symbols ≡ length layout.symbols
  pub data_commands : b.data_commands ≡ length (data_in layout.sections)

-- the statement at a place, as far as it is that of an output section
abbrev pub sections_at : List Item → ℕ → List OutputSectionAt
sections_at items place = option_map_or (λ (x : Item). item_sections x.line x.command) (slice_get items place) []

-- the one before the output section of this number, or after all statements, where the statements of SECTIONS begin
-- with a layout
pub record IsBoundary (rows : List (List Piece)) (provided : List (List ℕ)) (start : Layout) (items : List Item)
    (b : Boundary) (number : ℕ) : Type 0 where
  pub state : Layout
  pub comes : run (item_step rows provided) start (take b.items items) ≡ Ok state
  pub many : length state.sections ≡ number
  pub at : IsAt b state
  pub next : (length (sections_at items b.items) ≡ 1) ⊎ (b.items ≡ length items)

-- those of as many output sections as there are, from the first on
abbrev pub AreBoundaries : List (List Piece) → List (List ℕ) → Layout → List Item → List Boundary → Type 0
AreBoundaries rows provided start items bs =
    (k : ℕ) (b : Boundary) → slice_get bs k ≡ Some b → IsBoundary rows provided start items b k

-- those of as many output sections as are complete
pub record AreNoted (rows : List (List Piece)) (provided : List (List ℕ)) (start : Layout) (items : List Item)
    (bs : List Boundary) (complete : ℕ) : Type 0 where
  pub all : AreBoundaries rows provided start items bs
  pub many : length bs ≡ complete

-- those of the statements of a script that begin with a layout
pub record AreBoundariesOf (rows : List (List Piece)) (provided : List (List ℕ)) (layout : Layout)
    (script : List Statement)
    (bs : List Boundary) : Type 0 where
  pub start : Layout
  pub comes : run (statement_step rows provided) layout (before_sections script) ≡ Ok start
  pub all : AreBoundaries rows provided start (items_within script) bs
