-- The bytes of an image that is drawn from its parts (`section`), and that these stand in order.
use Rattle.std.specs.Prelude.{◌≡◌, ℕ, ◌+◌, ◌-◌, ◌%◌, ◌^◌, ◌<◌, ◌≤◌, ◌⊎◌, max, List, [], ◌∷◌, ◌++◌, length, map, find}
use Rattle.std.specs.Prelude.{filter, fold}
use Rattle.std.specs.Prelude.{slice_index, slice_index_or, Option, Some, None, Bool, false, not, nat_lt, nat_le, ◌==◌}
use Rattle.std.specs.Prelude.{if◌then◌else◌}
use Rattle.std.specs.List.{All}
use Rattle.byteorder.specs.Endian.{little_bytes}
use Rattle.emit_fields.specs.Patches.{AreInOrder, patched_byte}
use Rattle.ldmodel.specs.Image.{covers}
use Rattle.ldmodel.specs.declared.placed.PlacedData.{PlacedData}
use Rattle.ldscript.specs.statements.Widths.{byte_count}
use Rattle.emit_image.specs.declared.section.Drawing.{Drawing}
use Rattle.emit_image.specs.declared.section.ImagePart.{ImagePart}
use Rattle.emit_image.specs.declared.section.ImagePiece.{ImagePiece}
use Rattle.emit_image.specs.declared.section.ImageSection.{ImageSection}
use Rattle.emit_image.specs.Stretches.{Spot}

abbrev pub piece_end : ImagePiece → ℕ
piece_end x = x.start + x.size

abbrev pub data_end : PlacedData → ℕ
data_end d = d.start + byte_count d.width

abbrev pub is_full : ImagePiece → Bool
is_full x = not (x.size == 0)

abbrev pub covers_piece : ℕ → ImagePiece → Bool
covers_piece at x = covers x.start x.size at

abbrev pub covers_data : ℕ → PlacedData → Bool
covers_data at d = covers d.start (byte_count d.width) at

-- the byte of an input section at an address
abbrev pub piece_byte : ℕ → ImagePiece → ℕ
piece_byte at x = patched_byte x.bytes.now x.fields.now (at - x.start)

abbrev pub data_byte : ℕ → PlacedData → ℕ
data_byte at d = slice_index (little_bytes (byte_count d.width) d.value) (at - d.start)

-- where what isn't empty ends
abbrev pub ends_in : ImageSection → List ℕ
ends_in x = map piece_end (filter is_full x.pieces.now) ++ map data_end x.data_commands.now

abbrev pub last_end : ℕ → ℕ → List ℕ → ℕ
last_end at from ends = fold (λ n end. if nat_le end at then max n end else n) from ends

-- the byte of a gap, from the last of these ends on
abbrev pub gap_byte : ImageSection → ℕ → ℕ
gap_byte x at = slice_index x.fill.now ((at - last_end at x.start (ends_in x)) % length x.fill.now)

-- of the input section that lies there, else of the data command, else of the gap
abbrev pub spot_among : ImageSection → ℕ → Option ImagePiece → Option PlacedData → Spot
spot_among x at (Some y) d = record { byte = piece_byte at y; stays = y.stays }
spot_among x at None (Some d) = record { byte = data_byte at d; stays = false }
spot_among x at None None = record { byte = gap_byte x at; stays = false }

-- what lies at an address of an output section
unfoldable pub section_spot : ImageSection → ℕ → Spot
section_spot x at = spot_among x at (find (covers_piece at) x.pieces.now) (find (covers_data at) x.data_commands.now)

-- input sections, and data commands, one after the other from an address on and up to another
abbrev pub ArePieces : ℕ → ℕ → List ImagePiece → Type 0
ArePieces from end [] = from ≤ end
ArePieces from end (x ∷ xs) = (from ≤ x.start) × ArePieces (piece_end x) end xs

abbrev pub AreData : ℕ → ℕ → List PlacedData → Type 0
AreData from end [] = from ≤ end
AreData from end (d ∷ ds) = (from ≤ d.start) × AreData (data_end d) end ds

-- its bytes and fields, if any, fill an input section
abbrev pub IsFilled : ImagePiece → Type 0
IsFilled x =
    ((length x.bytes.now ≡ x.size) ⊎ (length x.bytes.now ≡ 0) × (length x.fields.now ≡ 0))
    × AreInOrder 0 x.size x.fields.now

-- an input section that isn't empty and a data command do not meet
abbrev pub AreApart : List ImagePiece → List PlacedData → Type 0
AreApart xs ds =
    (i j : ℕ) (x : ImagePiece) (d : PlacedData) → i < length xs → j < length ds → 0 < (slice_index_or xs i x).size
    → (piece_end (slice_index_or xs i x) ≤ (slice_index_or ds j d).start)
    ⊎ (data_end (slice_index_or ds j d) ≤ (slice_index_or xs i x).start)

-- an output section whose parts stand in order in it
pub record IsOrderly (x : ImageSection) : Type 0 where
  pub some_fill : 0 < length x.fill.now
  pub short_fill : length x.fill.now ≤ 8
  pub end : x.start + x.size < 2 ^ 64
  pub file_end : x.offset + x.size < 2 ^ 64
  pub pieces : ArePieces x.start (x.start + x.size) x.pieces.now
  pub filled : All IsFilled x.pieces.now
  pub data_commands : AreData x.start (x.start + x.size) x.data_commands.now
  pub apart : AreApart x.pieces.now x.data_commands.now

abbrev pub covers_section : ℕ → ImageSection → Bool
covers_section o x = covers x.offset x.size o

abbrev pub covers_part : ℕ → ImagePart → Bool
covers_part o x = covers x.offset (length x.bytes.now) o

abbrev pub spot_past_headers : ℕ → Option ImageSection → Option ImagePart → Spot
spot_past_headers o (Some x) t = section_spot x (x.start + (o - x.offset))
spot_past_headers o None (Some t) = record { byte = slice_index t.bytes.now (o - t.offset); stays = false }
spot_past_headers o None None = record { byte = 0; stays = false }

-- what lies at an offset of the image
unfoldable pub drawing_spot : Drawing → ℕ → Spot
drawing_spot drawing o =
    if nat_lt o (length drawing.headers.now) then record { byte = slice_index drawing.headers.now o; stays = false }
    else spot_past_headers o (find (covers_section o) drawing.sections.now) (find (covers_part o) drawing.tail.now)

-- output sections, and parts of the tail, one after the other in the file from an offset on
abbrev pub end_of_sections : ℕ → List ImageSection → ℕ
end_of_sections from [] = from
end_of_sections from (x ∷ xs) = end_of_sections (x.offset + x.size) xs

abbrev pub AreSections : ℕ → List ImageSection → Type 0
AreSections from [] = Unit {0}
AreSections from (x ∷ xs) = (from ≤ x.offset) × IsOrderly x × AreSections (x.offset + x.size) xs

abbrev pub part_end : ImagePart → ℕ
part_end x = x.offset + length x.bytes.now

abbrev pub end_of_parts : ℕ → List ImagePart → ℕ
end_of_parts from [] = from
end_of_parts from (x ∷ xs) = end_of_parts (part_end x) xs

abbrev pub AreParts : ℕ → List ImagePart → Type 0
AreParts from [] = Unit {0}
AreParts from (x ∷ xs) = (from ≤ x.offset) × (part_end x < 2 ^ 64) × AreParts (part_end x) xs

-- where the image ends
abbrev pub drawing_end : Drawing → ℕ
drawing_end drawing = end_of_parts (end_of_sections (length drawing.headers.now) drawing.sections.now) drawing.tail.now

-- all parts of an image stand in order
pub record IsDrawing (drawing : Drawing) : Type 0 where
  pub sections : AreSections (length drawing.headers.now) drawing.sections.now
  pub tail : AreParts (end_of_sections (length drawing.headers.now) drawing.sections.now) drawing.tail.now
