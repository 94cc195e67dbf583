-- What makes the parts of a drawing stand in order: that those of the layout do in memory, and that fills, bytes and
-- fields have their sizes.
use Rattle.std.specs.Prelude.{ℕ, ◌+◌, ◌^◌, ◌<◌, ◌≤◌, ◌⊎◌, List, [], ◌∷◌, length, slice_index_or}
use Rattle.std.specs.List.{All}
use Rattle.ldmodel.specs.Layout.{PlacedData, PlacedPiece, PlacedOutput}
use Rattle.ldmodel.specs.Segments.{end_of}
use Rattle.emit_image.specs.Drawing.{IsFilled}
use Rattle.emit_image.specs.declared.section.Drawing.{Drawing}
use Rattle.emit_image.specs.declared.section.ImageSection.{ImageSection}

abbrev pub placed_end : PlacedPiece → ℕ
placed_end placed = placed.start + placed.piece.size

abbrev pub bytes_end : PlacedData → ℕ
bytes_end d = d.start + length d.bytes

-- input sections, and data commands, one after the other from an address on and up to another
abbrev pub PiecesInOrder : ℕ → ℕ → List PlacedPiece → Type 0
PiecesInOrder from end [] = from ≤ end
PiecesInOrder from end (x ∷ xs) = (from ≤ x.start) × PiecesInOrder (placed_end x) end xs

abbrev pub DataInOrder : ℕ → ℕ → List PlacedData → Type 0
DataInOrder from end [] = from ≤ end
DataInOrder from end (d ∷ ds) = (from ≤ d.start) × DataInOrder (bytes_end d) end ds

-- an input section that isn't empty and a data command do not meet
abbrev pub DoNotMeet : List PlacedPiece → List PlacedData → Type 0
DoNotMeet xs ds =
    (i j : ℕ) (placed : PlacedPiece) (d : PlacedData) → i < length xs → j < length ds
    → 0 < (slice_index_or xs i placed).piece.size
    → (placed_end (slice_index_or xs i placed) ≤ (slice_index_or ds j d).start)
    ⊎ (bytes_end (slice_index_or ds j d) ≤ (slice_index_or xs i placed).start)

-- an output section whose parts stand in order in it
pub record IsInMemory (output : PlacedOutput) : Type 0 where
  pub end : end_of output < 2 ^ 64
  pub pieces : PiecesInOrder output.start (end_of output) output.pieces
  pub data_commands : DataInOrder output.start (end_of output) output.data_commands
  pub apart : DoNotMeet output.pieces output.data_commands

-- a fill has 1 to 8 bytes, and bytes and fields fill their input sections
pub record IsSectionFilled (x : ImageSection) : Type 0 where
  pub some_fill : 0 < length x.fill.now
  pub short_fill : length x.fill.now ≤ 8
  pub pieces : All IsFilled x.pieces.now

abbrev pub AreFilled : Drawing → Type 0
AreFilled drawing = All IsSectionFilled drawing.sections.now
