-- Input sections as they are drawn.
use Rattle.std.specs.Prelude.{◌≡◌, ◌≤◌, Bool, ℕ, List, Some, false, flat_map, length, map, slice_get}
use Rattle.emit_fields.specs.Patches.{patched_byte}
use Rattle.elfobj.specs.Sections.{LinkedSection}
use Rattle.elfobj.specs.declared.section.SectionIndex.{SectionIndex}
use Rattle.emit_image.specs.Drawing.{IsFilled}
use Rattle.emit_image.specs.OfLink.{IsImagePiece}
use Rattle.emit_image.specs.declared.section.ImagePiece.{ImagePiece}
use Rattle.ldmodel_laws.specs.Spread.{entries_in}
use Rattle.ldmodel.specs.Each.{Each}
use Rattle.ldmodel.specs.Image.{object_named, section_numbered}
use Rattle.ldmodel_laws.specs.ByteCases.{section_byte}
use Rattle.ldmodel.specs.Layout.{Layout, PlacedPiece, PlacedOutput}
use Rattle.ldmodel.specs.PlacementView.{starts_of}
use Rattle.ldmodel.specs.Project.{NamedObject, Project}
use Rattle.ldmodel.specs.Rows.{Piece}
use Rattle.ldmodel.specs.SymbolValues.{placed_part}
use Rattle.ldmodel.specs.declared.sections.Part.TheVariants.{InTable}
use Rattle.ldmodel.specs.declared.sections.SectionRef.{SectionRef}
use Rattle.emit.specs.declared.relocated.Relocated.{Relocated}
use Rattle.emit_relocate.specs.KnownLink.{KnownLink}
use Rattle.emit.specs.StayedPieces.{IsStayedByKey}
use Rattle.place.specs.IndexedLayout.{IsIndexedLayout}
use Rattle.place.specs.declared.indexed_layout.IndexedLayout.{IndexedLayout}
use Rattle.emit.specs.Runs.{AreRunsUnless}

-- where everything stands, and the fields of the sections that do not stay, are those of a link
pub record AreSources (link : KnownLink) (stays : SectionRef → Bool) (a : IndexedLayout) (r : Relocated) : Type 0 where
  pub indexed_layout : IsIndexedLayout link.project link.layout a
  pub runs : AreRunsUnless link stays r.patches.items r.ends.items

-- a section of an object at an address
pub record IsSectionPiece (link : KnownLink) (object : NamedObject) (section : LinkedSection) (long at : ℕ)
    (y : ImagePiece)
    : Type 0 where
  pub start : y.start ≡ at
  pub size : y.size ≡ long
  pub bytes : (i : ℕ) → patched_byte y.bytes.now y.fields.now i
      ≡ section_byte link.project link.layout object at i section
  pub filled : IsFilled y
  pub unstayed : y.stays ≡ false

-- an input section in its place that is drawn anew
pub record IsDrawnPiece (project : Project) (layout : Layout) (w : PlacedPiece) (y : ImagePiece) : Type 0 where
  pub piece : IsImagePiece project layout w y
  pub filled : IsFilled y
  pub unstayed : y.stays ≡ false

-- an input section in its place, which stays if its key does
pub record IsRowPiece (project : Project) (layout : Layout) (stays : SectionRef → Bool) (w : PlacedPiece)
    (y : ImagePiece)
    : Type 0 where
  pub piece : IsImagePiece project layout w y
  pub filled : IsFilled y
  pub kept : IsStayedByKey project stays w y

-- an entry of a row has the size of its section
abbrev pub IsSized : Project → Piece → Type 0
IsSized project x =
    (object : NamedObject) (number : SectionIndex) (y : LinkedSection) → x.part ≡ InTable number
    → object_named project x.object ≡ Some object → section_numbered object number ≡ Some y → y.size ≡ x.size

-- an entry of a row at an address; no other input section of the layout is the same part of its object
pub record IsPlacedAt (project : Project) (layout : Layout) (piece : Piece) (start : ℕ) (w : PlacedPiece) : Type 0 where
  pub piece_is : w.piece ≡ piece
  pub start_is : w.start ≡ start
  pub found : placed_part layout w.piece.object w.piece.part ≡ Some w
  pub sized : IsSized project piece

-- the entries of a row at the first of some addresses
pub record IsRowAt (project : Project) (layout : Layout) (row : List Piece) (starts : List ℕ)
    (output : PlacedOutput) : Type 0 where
  pub long : length row ≡ length output.pieces
  pub enough : length row ≤ length starts
  pub each : (k : ℕ) (piece : Piece) (start : ℕ) (w : PlacedPiece) → slice_get output.pieces k ≡ Some w
      → slice_get row k ≡ Some piece → slice_get starts k ≡ Some start → IsPlacedAt project layout piece start w

-- rows at the addresses of a layout, in which each input section stands once
pub record AreRowsAt (project : Project) (layout : Layout) (rows : List (List Piece)) (starts : List ℕ) : Type 0 where
  pub placed : map entries_in layout.sections ≡ rows
  pub begun : starts ≡ flat_map starts_of layout.sections
  pub found :
      Each (λ (output : PlacedOutput).
      Each (λ (w : PlacedPiece). placed_part layout w.piece.object w.piece.part ≡ Some w) output.pieces) layout.sections
  pub sized : Each (Each (IsSized project)) rows
