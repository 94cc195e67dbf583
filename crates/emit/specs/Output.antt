-- Output sections as the code draws them.
use Rattle.std.specs.Prelude.{◌≡◌, Bool, ℕ, ◌%◌, ◌<◌, ◌≤◌, List, filter, length, map, slice_index}
use Rattle.std.specs.List.{All, AllZip}
use Rattle.ldmodel.specs.Image.{fill_byte}
use Rattle.ldmodel.specs.Layout.{Layout, PlacedOutput}
use Rattle.ldmodel.specs.PlacementView.{placed_of}
use Rattle.ldmodel.specs.Project.{Project}
use Rattle.ldmodel.specs.Segments.{SectionInFile, file_offset, nonempty, segments}
use Rattle.ldmodel.specs.declared.sections.SectionRef.{SectionRef}
use Rattle.emit_image.specs.Drawing.{IsFilled}
use Rattle.emit_image.specs.InMemory.{IsSectionFilled}
use Rattle.emit_image.specs.Joined.{IsJoinedSection, StandFor}
use Rattle.emit_image.specs.OfLink.{IsImageData, IsImagePiece, IsImageSection, loaded}
use Rattle.emit_image.specs.declared.section.ImagePiece.{ImagePiece}
use Rattle.emit_image.specs.declared.section.ImageSection.{ImageSection}
use Rattle.place.specs.Offsets.{IsOffset}
use Rattle.emit.specs.StayedPieces.{IsStayedByKey}
use Rattle.emit.specs.declared.output.OutputDrawing.{OutputDrawing}

-- the input sections of an output section, each of which stays if its key does; bytes and fields fill each
pub record IsRow (project : Project) (layout : Layout) (stays : SectionRef → Bool) (output : PlacedOutput)
    (ys : List ImagePiece)
    : Type 0 where
  pub pieces : AllZip (IsImagePiece project layout) output.pieces ys
  pub filled : All IsFilled ys
  pub kept : AllZip (IsStayedByKey project stays) output.pieces ys

-- the same, where those that stay may be joined
pub record IsJoinedRow (project : Project) (layout : Layout) (stays : SectionRef → Bool) (output : PlacedOutput)
    (ys : List ImagePiece) : Type 0 where
  pub whole : List ImagePiece
  pub row : IsRow project layout stays output whole
  pub joined : StandFor whole ys

-- all that is drawn of an output section
pub record IsOutput (project : Project) (layout : Layout) (stays : SectionRef → Bool) (output : PlacedOutput)
    (x : OutputDrawing)
    : Type 0 where
  pub name : x.name.now ≡ output.name
  pub placed : x.placed ≡ placed_of output
  pub offset : IsOffset layout output x.offset
  pub fill : (i : ℕ) → slice_index x.fill.now (i % length x.fill.now) ≡ fill_byte output.fill i
  pub some_fill : 0 < length x.fill.now
  pub short_fill : length x.fill.now ≤ 8
  pub row : IsJoinedRow project layout stays output x.pieces.now
  pub data_commands : AllZip IsImageData output.data_commands x.data_commands.now

-- each input section of an output section stays if its key does
abbrev pub AreStayedByKey : Project → (SectionRef → Bool) → SectionInFile → ImageSection → Type 0
AreStayedByKey project stays x y = AllZip (IsStayedByKey project stays) x.section.pieces y.pieces.now

-- an output section, and where it begins in the file
abbrev pub in_file_at : Layout → PlacedOutput → SectionInFile
in_file_at layout output = record { offset = file_offset (segments layout.sections) output; section = output }

-- an output section as it is drawn, of whose input sections those that stay may be joined
pub record IsDrawn (project : Project) (layout : Layout) (stays : SectionRef → Bool) (output : PlacedOutput)
    (y : ImageSection)
    : Type 0 where
  pub whole : ImageSection
  pub section : IsImageSection project layout (in_file_at layout output) whole
  pub filled : IsSectionFilled whole
  pub kept : AreStayedByKey project stays (in_file_at layout output) whole
  pub joined : IsJoinedSection whole y

-- those of some output sections that have bytes in the file
abbrev pub with_bytes : Layout → List PlacedOutput → List SectionInFile
with_bytes layout qs = filter (λ (x : SectionInFile). x.section.has_file_bytes) (map (in_file_at layout) (nonempty qs))

pub record AreDrawnOf (project : Project) (layout : Layout) (stays : SectionRef → Bool) (qs : List PlacedOutput)
    (ys : List ImageSection) : Type 0 where
  pub wholes : List ImageSection
  pub sections : AllZip (IsImageSection project layout) (with_bytes layout qs) wholes
  pub filled : All IsSectionFilled wholes
  pub kept : AllZip (AreStayedByKey project stays) (with_bytes layout qs) wholes
  pub joined : AllZip IsJoinedSection wholes ys

-- the output sections with bytes in the file, as they are drawn
pub record AreDrawn (project : Project) (layout : Layout) (stays : SectionRef → Bool)
    (ys : List ImageSection) : Type 0 where
  pub wholes : List ImageSection
  pub sections : AllZip (IsImageSection project layout) (loaded layout) wholes
  pub filled : All IsSectionFilled wholes
  pub kept : AllZip (AreStayedByKey project stays) (loaded layout) wholes
  pub joined : AllZip IsJoinedSection wholes ys
