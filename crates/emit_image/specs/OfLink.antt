-- That the parts of a drawing are those of a link.
use Rattle.std.specs.Prelude.{◌≡◌, ℕ, ◌%◌, ◌<◌, List, length, slice_index, filter, false}
use Rattle.std.specs.List.{All, AllZip}
use Rattle.byteorder.specs.Endian.{little_bytes}
use Rattle.emit_fields.specs.Patches.{patched_byte}
use Rattle.ldmodel.specs.Image as image
use Rattle.ldmodel.specs.Image.{fill_byte}
use Rattle.ldmodel_laws.specs.ByteCases.{part_byte}
use Rattle.ldmodel.specs.Layout.{Layout, PlacedPiece}
use Rattle.ldmodel.specs.Layout as layout
use Rattle.ldmodel.specs.Project.{Project}
use Rattle.ldmodel.specs.SectionHeaders.{FilePart}
use Rattle.ldmodel.specs.SectionHeaders as headings
use Rattle.ldmodel.specs.Segments.{SectionInFile, segments, in_file}
use Rattle.ldmodel.specs.declared.placed.PlacedData.{PlacedData}
use Rattle.ldscript.specs.statements.Widths.{byte_count}
use Rattle.emit_image.specs.declared.section.Drawing.{Drawing}
use Rattle.emit_image.specs.declared.section.ImagePart.{ImagePart}
use Rattle.emit_image.specs.declared.section.ImagePiece.{ImagePiece}
use Rattle.emit_image.specs.declared.section.ImageSection.{ImageSection}

-- an input section; of one that stays the bytes are not asked for
pub record IsImagePiece (project : Project) (layout : Layout) (placed : PlacedPiece) (y : ImagePiece) : Type 0 where
  pub start : y.start ≡ placed.start
  pub size : y.size ≡ placed.piece.size
  pub bytes : y.stays ≡ false → (i : ℕ) → i < y.size
      → patched_byte y.bytes.now y.fields.now i
      ≡ part_byte project layout placed.piece.object placed.piece.part placed.start i

pub record IsImageData (x : layout.PlacedData) (y : PlacedData) : Type 0 where
  pub start : y.start ≡ x.start
  pub bytes : little_bytes (byte_count y.width) y.value ≡ x.bytes

-- an output section with file bytes
pub record IsImageSection (project : Project) (layout : Layout) (x : SectionInFile) (y : ImageSection) : Type 0 where
  pub offset : y.offset ≡ x.offset
  pub start : y.start ≡ x.section.start
  pub size : y.size ≡ x.section.size
  pub fill : (i : ℕ) → slice_index y.fill.now (i % length y.fill.now) ≡ fill_byte x.section.fill i
  pub pieces : AllZip (IsImagePiece project layout) x.section.pieces y.pieces.now
  pub data_commands : AllZip IsImageData x.section.data_commands y.data_commands.now

pub record IsImagePart (x : FilePart) (y : ImagePart) : Type 0 where
  pub offset : y.offset ≡ x.offset
  pub bytes : y.bytes.now ≡ x.bytes

-- the output sections of a layout that have bytes in the file, in their order there
abbrev pub loaded : Layout → List SectionInFile
loaded layout = filter (λ (x : SectionInFile). x.section.has_file_bytes) (in_file (segments layout.sections))

pub record IsDrawingOf (project : Project) (layout : Layout) (drawing : Drawing) : Type 0 where
  pub headers : drawing.headers.now ≡ image.file_headers project layout
  pub sections : AllZip (IsImageSection project layout) (loaded layout) drawing.sections.now
  pub tail : AllZip IsImagePart (headings.tail project layout) drawing.tail.now

-- no input section stays
abbrev pub AreUnstayed : Drawing → Type 0
AreUnstayed drawing =
    All (λ (x : ImageSection). All (λ (y : ImagePiece). y.stays ≡ false) x.pieces.now) drawing.sections.now
