-- The table of the output sections in their places.
use Rattle.std.specs.Prelude.{◌≡◌, ℕ, ◌+◌, ◌^◌, ◌<◌, ◌≤◌, List, [], ◌∷◌, ◌++◌, length, map, Option, Some, None}
use Rattle.std.specs.Prelude.{⊤, slice_index}
use Rattle.std.specs.List.{All}
use Rattle.ldscript.specs.statements.Given.{section_number, region_number}
use Rattle.ldscript.specs.statements.declared.statement.Statement.{Statement}
use Rattle.ldmodel.specs.Placement.{difference_in}
use Rattle.place_terms.specs.Keyed.{KeyedPiece, KeyedSection, data_at_of, section_of}
use Rattle.place_terms.specs.Naming.{Naming}
use Rattle.place_terms.specs.Tables.{AreInOrder}
use Rattle.place_terms.specs.Wholes.{all_data_in, starts_in}
use Rattle.place_terms.specs.declared.sections.Closed.{Closed}
use Rattle.place_terms.specs.declared.sections.PieceAt.{PieceAt}
use Rattle.place_terms.specs.declared.sections.DifferenceSlot.{DifferenceSlot}
use Rattle.place_terms.specs.declared.sections.DifferenceSlot.TheVariants.{Elsewhere, At, Nowhere}
use Rattle.place_terms.specs.declared.previous_layout.ReusedOutput.{ReusedOutput}
use Rattle.ldmodel.specs.declared.rows.Piece as rows

abbrev pub keyed_piece : PieceAt → KeyedPiece
keyed_piece x = record { start = x.start; piece = x.piece.now }

-- input sections that are taken over: the first entries of a row, as many as there are starts
abbrev pub taken_pieces : List ℕ → List rows.Piece → List KeyedPiece
taken_pieces [] ps = []
taken_pieces (x ∷ xs) [] = []
taken_pieces (x ∷ xs) (p ∷ ps) = record { start = x; piece = p } ∷ taken_pieces xs ps

-- one that was placed in this layout
abbrev pub keyed : Closed → KeyedSection
keyed x = record {
  name = x.output.now.name;
  region = x.output.now.region;
  fill = x.output.now.fill;
  placed = x.placed;
  pieces = map keyed_piece x.pieces.items;
  data_commands = x.data_commands.items;
}

-- one that is taken over
abbrev pub keyed_taken : ReusedOutput → KeyedSection
keyed_taken x = record {
  name = x.output.now.name;
  region = x.output.now.region;
  fill = x.output.now.fill;
  placed = x.placed.now;
  pieces = taken_pieces x.starts.now x.row.now;
  data_commands = map data_at_of x.data_commands.now;
}

-- those that are taken over, and then those that were placed
abbrev pub both : List ReusedOutput → List Closed → List KeyedSection
both taken placed = map keyed_taken taken ++ map keyed placed

abbrev pub section_names : List KeyedSection → List (List ℕ)
section_names sections = map (λ (x : KeyedSection). x.name) sections

-- start less load address of the last output section of a region; names of input sections do not count
abbrev pub nameless : Naming
nameless = record { object = λ _. []; section = λ _. [] }

unfoldable pub difference_by : List KeyedSection → Option (List ℕ) → ℕ
difference_by sections region = difference_in (map (section_of nameless) sections) region

-- the end of a section is an address
abbrev pub Fits : KeyedSection → Type 0
Fits x = x.placed.start + x.placed.size < 2 ^ 64

abbrev pub Ends : List KeyedSection → Type 0
Ends sections = All (λ (x : KeyedSection). Fits x) sections

-- the difference of a region is kept at the place of its number in a table, if the table has that place; that of no
-- region elsewhere
abbrev pub IsDifferenceSlot : List Statement → ℕ → Option (List ℕ) → DifferenceSlot → Type 0
IsDifferenceSlot script count None Elsewhere = ⊤
IsDifferenceSlot script count None (At k) = ⊥
IsDifferenceSlot script count None Nowhere = ⊥
IsDifferenceSlot script count (Some name) Elsewhere = ⊥
IsDifferenceSlot script count (Some name) (At k) = (region_number script name ≡ Some k) × (k < count)
IsDifferenceSlot script count (Some name) Nowhere = (k : ℕ) → region_number script name ≡ Some k → count ≤ k

-- the sections stand under their numbers, their ends are addresses, the differences under those of their regions, and
-- their input sections and data commands are counted
pub record AreSectionsOf (script : List Statement) (sections : List KeyedSection) (differences : List ℕ)
    (elsewhere : ℕ) (count data_count : ℕ) : Type 0 where
  pub order : AreInOrder (section_number script) (section_names sections)
  pub differences_of : (name : List ℕ) (k : ℕ) → region_number script name ≡ Some k → k < length differences
      → slice_index differences k ≡ difference_by sections (Some name)
  pub elsewhere_of : elsewhere ≡ difference_by sections None
  pub ends : Ends sections
  pub counted : count ≡ length (starts_in sections)
  pub data_counted : data_count ≡ length (all_data_in 0 sections)
