-- Drawings in which input sections that stay, with no gap between them, are joined to one: what they have in common
-- with the drawings that have each input section.
use Rattle.std.specs.Prelude.{◌≡◌, ℕ, List, [], Option, None, find, filter, map, true}
use Rattle.std.specs.List.{All, AllZip}
use Rattle.std.specs.Option.{option_map}
use Rattle.ldmodel.specs.Each.{Each}
use Rattle.ldmodel.specs.declared.placed.PlacedData.{PlacedData}
use Rattle.emit_image.specs.Drawing.{AreApart, ArePieces, IsFilled, covers_piece, drawing_end, drawing_spot, is_full}
use Rattle.emit_image.specs.Drawing.{last_end, piece_byte, piece_end}
use Rattle.emit_image.specs.Stretches.{Spot}
use Rattle.emit_image.specs.declared.section.Drawing.{Drawing}
use Rattle.emit_image.specs.declared.section.ImagePiece.{ImagePiece}
use Rattle.emit_image.specs.declared.section.ImageSection.{ImageSection}

-- what lies at an address in an input section
abbrev pub piece_spot : ℕ → ImagePiece → Spot
piece_spot at y = record { byte = piece_byte at y; stays = y.stays }

-- what lies at an address among input sections, if anything does
abbrev pub spot_in : List ImagePiece → ℕ → Option Spot
spot_in ys at = option_map (piece_spot at) (find (covers_piece at) ys)

-- where those end that aren't empty
abbrev pub piece_ends : List ImagePiece → List ℕ
piece_ends ys = map piece_end (filter is_full ys)

-- an input section that stays has no bytes and no fields of its own
abbrev pub IsBare : ImagePiece → Type 0
IsBare y = y.stays ≡ true → (y.bytes.now ≡ []) × (y.fields.now ≡ [])

-- an input section of this number of bytes at an address, which stays
pub record IsStayedPieceAt (start size : ℕ) (y : ImagePiece) : Type 0 where
  pub start_is : y.start ≡ start
  pub size_is : y.size ≡ size
  pub bytes : y.bytes.now ≡ []
  pub fields : y.fields.now ≡ []
  pub stays : y.stays ≡ true

-- these input sections stand for those of a whole list: at each address the same lies among them, a gap begins where it
-- begins there, and they stand in order and apart from data commands where those do
pub record StandFor (whole ys : List ImagePiece) : Type 0 where
  pub bare : Each IsBare ys
  pub spots : (at : ℕ) → spot_in ys at ≡ spot_in whole at
  pub ends : (at from : ℕ) → spot_in whole at ≡ None
      → last_end at from (piece_ends ys) ≡ last_end at from (piece_ends whole)
  pub order : (from end : ℕ) → ArePieces from end whole → ArePieces from end ys
  pub filled : All IsFilled whole → All IsFilled ys
  pub apart : (ds : List PlacedData) → AreApart whole ds → AreApart ys ds

-- an output section that differs from a whole one in this alone
pub record IsJoinedSection (whole y : ImageSection) : Type 0 where
  pub offset : y.offset ≡ whole.offset
  pub start : y.start ≡ whole.start
  pub size : y.size ≡ whole.size
  pub fill : y.fill.now ≡ whole.fill.now
  pub pieces : StandFor whole.pieces.now y.pieces.now
  pub data_commands : y.data_commands.now ≡ whole.data_commands.now

-- a drawing that differs from a whole one in this alone
pub record IsJoined (whole drawing : Drawing) : Type 0 where
  pub headers : drawing.headers.now ≡ whole.headers.now
  pub sections : AllZip IsJoinedSection whole.sections.now drawing.sections.now
  pub tail : drawing.tail.now ≡ whole.tail.now

-- drawings of the same bytes, of which the same stay
pub record AreAlike (whole drawing : Drawing) : Type 0 where
  pub end : drawing_end drawing ≡ drawing_end whole
  pub spots : (o : ℕ) → drawing_spot drawing o ≡ drawing_spot whole o
