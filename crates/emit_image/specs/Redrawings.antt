-- What a drawing keeps of the image of an old link: input sections that stayed, with patches for the fields of their
-- sites whose symbol has another value.
use Rattle.std.specs.Prelude.{◌≡◌, ℕ, ◌+◌, ◌<◌, ◌≤◌, List, Contains, Ok, true}
use Rattle.std.specs.List.{All, AllZip}
use Rattle.elfobj.specs.Profile.{AreApart}
use Rattle.emit_fields.specs.Patches.{patch_end}
use Rattle.emit_fields.specs.declared.patch.Patch.{Patch}
use Rattle.ldmodel.specs.Layout.{Layout, PlacedPiece, PlacedOutput}
use Rattle.ldmodel.specs.Relocations.{Site, site_field}
use Rattle.ldmodel.specs.Segments.{SectionInFile, segments}
use Rattle.ldmodel.specs.Stayed.{GoodLink, LinkedPiece, has_stayed, linked_piece, retargeted, sites_in, stayed}
use Rattle.emit_image.specs.OfLink.{IsDrawingOf, loaded}
use Rattle.emit_image.specs.declared.section.Drawing.{Drawing}
use Rattle.emit_image.specs.declared.section.ImagePiece.{ImagePiece}
use Rattle.emit_image.specs.declared.section.ImageSection.{ImageSection}

-- the input sections of output sections with file bytes, and those of a drawing, are related one by one
abbrev pub EachPiece : (PlacedOutput → PlacedPiece → ImagePiece → Type 0) → Layout → Drawing → Type 0
EachPiece R layout drawing =
    AllZip (λ (x : SectionInFile) (y : ImageSection). AllZip (R x.section) x.section.pieces y.pieces.now)
    (loaded layout)
    drawing.sections.now

abbrev pub linked_in : GoodLink → PlacedOutput → PlacedPiece → LinkedPiece
linked_in link output placed = linked_piece link.project (segments link.layout.sections) output placed

-- an input section that is kept has stayed
abbrev pub HasStayed : GoodLink → GoodLink → PlacedOutput → PlacedPiece → ImagePiece → Type 0
HasStayed old new output placed y = y.stays ≡ true → has_stayed old (linked_in new output placed) ≡ true

-- one that has stayed is kept
abbrev pub IsMarkedIfStayed : GoodLink → GoodLink → PlacedOutput → PlacedPiece → ImagePiece → Type 0
IsMarkedIfStayed old new output placed y = has_stayed old (linked_in new output placed) ≡ true → y.stays ≡ true

-- the field of a site of an input section, in its place in the file
abbrev pub file_patch : LinkedPiece → Site → List ℕ → Patch
file_patch piece site field = record { offset = piece.range.offset + site.relocation.offset; field = field }

-- the new field of a site of an input section that stayed, in its place in the file, where the relocations of the
-- section share no byte
pub record IsSitePatch (old new : GoodLink) (q : Patch) : Type 0 where
  pub piece : LinkedPiece
  pub site : Site
  pub among_stayed : Contains (stayed old new) piece
  pub among : Contains (sites_in new.project piece) site
  pub apart : AreApart site.section.relocations
  pub is_field : site_field new.project new.layout site ≡ Ok q.field
  pub place : q ≡ file_patch piece site q.field
  pub inside : patch_end q ≤ piece.range.offset + piece.range.length

-- each patch is such a field, and those whose symbol has another value have one
pub record ArePatchesOf (old new : GoodLink) (patches : List Patch) : Type 0 where
  pub each : All (IsSitePatch old new) patches
  pub all : (piece : LinkedPiece) (site : Site) (field : List ℕ) → Contains (stayed old new) piece → 0
      < piece.range.length
      → Contains (sites_in new.project piece) site → Contains (retargeted old new) site
      → site_field new.project new.layout site ≡ Ok field → Contains patches (file_patch piece site field)

-- a drawing of the new link, with patches, for a canvas that holds the image of the old one
pub record IsRedrawing (old new : GoodLink) (d : Drawing) (patches : List Patch) : Type 0 where
  pub drawing : IsDrawingOf new.project new.layout d
  pub kept : EachPiece (HasStayed old new) new.layout d
  pub patched : ArePatchesOf old new patches
