-- How far the parts of an output section are added.
use Rattle.std.specs.Prelude.{◌≡◌, ℕ, ◌+◌, ◌-◌, ◌<◌, ◌≤◌, ◌⊎◌, length, slice_index, slice_index_or, Contains, drop}
use Rattle.std.specs.Prelude.{nat_lt, false, if◌then◌else◌}
use Rattle.ldmodel.specs.declared.placed.PlacedData.{PlacedData}
use Rattle.emit_image.specs.Drawing.{AreParts, AreSections, data_end, drawing_end, end_of_parts, end_of_sections}
use Rattle.emit_image.specs.Drawing.{ends_in}
use Rattle.emit_image.specs.Drawing.{part_end}
use Rattle.emit_image.specs.Drawing.{piece_end, section_spot}
use Rattle.emit_image.specs.Stretches.{Spot}
use Rattle.emit_image.specs.declared.section.Drawing.{Drawing}
use Rattle.emit_image.specs.declared.section.ImagePart.{ImagePart}
use Rattle.emit_image.specs.declared.section.ImagePiece.{ImagePiece}
use Rattle.emit_image.specs.declared.section.ImageSection.{ImageSection}

-- the first k input sections and the first j data commands end by an address, the others start there or later, and
-- there the section starts or something that is not empty ends
pub record IsReached (x : ImageSection) (k j at : ℕ) : Type 0 where
  pub low : x.start ≤ at
  pub high : at ≤ x.start + x.size
  pub pieces_before : (i : ℕ) (y : ImagePiece) → i < k → i < length x.pieces.now
      → 0 < (slice_index_or x.pieces.now i y).size
      → piece_end (slice_index_or x.pieces.now i y) ≤ at
  pub pieces_after : (i : ℕ) (y : ImagePiece) → k ≤ i → i < length x.pieces.now
      → 0 < (slice_index_or x.pieces.now i y).size
      → at ≤ (slice_index_or x.pieces.now i y).start
  pub data_before : (i : ℕ) (d : PlacedData) → i < j → i < length x.data_commands.now
      → data_end (slice_index_or x.data_commands.now i d) ≤ at
  pub data_after : (i : ℕ) (d : PlacedData) → j ≤ i → i < length x.data_commands.now
      → at ≤ (slice_index_or x.data_commands.now i d).start
  pub last : (at ≡ x.start) ⊎ Contains (ends_in x) at

-- input sections from number k on, and data commands from number j on, start at an address or later
abbrev pub PiecesFrom : ImageSection → ℕ → ℕ → Type 0
PiecesFrom x k at =
    (i : ℕ) (y : ImagePiece) → k ≤ i → i < length x.pieces.now → 0 < (slice_index_or x.pieces.now i y).size
    → at ≤ (slice_index_or x.pieces.now i y).start

abbrev pub DataFrom : ImageSection → ℕ → ℕ → Type 0
DataFrom x j at =
    (i : ℕ) (d : PlacedData) → j ≤ i → i < length x.data_commands.now
    → at ≤ (slice_index_or x.data_commands.now i d).start

-- where an address of an output section lies in the file
abbrev pub file_offset_of : ImageSection → ℕ → ℕ
file_offset_of x at = x.offset + (at - x.start)

-- what lies at an offset of the file in an output section
abbrev pub section_image : ImageSection → ℕ → Spot
section_image x o = section_spot x (x.start + (o - x.offset))

-- zeros up to an offset, and then an image
abbrev pub after_zeros : ℕ → (ℕ → Spot) → ℕ → Spot
after_zeros from image o = if nat_lt o from then record { byte = 0; stays = false } else image o

abbrev pub part_image : ImagePart → ℕ → Spot
part_image t o = record { byte = slice_index t.bytes.now (o - t.offset); stays = false }

-- the first k output sections end by an offset, and the others begin there or later
pub record AreSectionsReached (drawing : Drawing) (k at : ℕ) : Type 0 where
  pub low : length drawing.headers.now ≤ at
  pub before : (i : ℕ) (x : ImageSection) → i < k → i < length drawing.sections.now
      → (slice_index_or drawing.sections.now i x).offset + (slice_index_or drawing.sections.now i x).size ≤ at
  pub order : AreSections at (drop k drawing.sections.now)
  pub end : end_of_sections at (drop k drawing.sections.now)
      ≡ end_of_sections (length drawing.headers.now) drawing.sections.now

-- the first k parts of the tail end by an offset, and the others begin there or later
pub record ArePartsReached (drawing : Drawing) (k at : ℕ) : Type 0 where
  pub low : end_of_sections (length drawing.headers.now) drawing.sections.now ≤ at
  pub before : (i : ℕ) (t : ImagePart) → i < k → i < length drawing.tail.now
      → part_end (slice_index_or drawing.tail.now i t) ≤ at
  pub order : AreParts at (drop k drawing.tail.now)
  pub end : end_of_parts at (drop k drawing.tail.now) ≡ drawing_end drawing
