-- Where the input sections of an object stand in a link.
use Rattle.std.specs.Prelude.{◌≡◌, ◌<◌, ℕ, List, Some, Contains, flat_map, slice_get}
use Rattle.std.specs.List.{All, AllPairs}
use Rattle.std.specs.Option.{option_map_or}
use Rattle.elfobj.specs.Object.{ObjectData}
use Rattle.elfobj.specs.Profile.{size_in_file}
use Rattle.elfobj.specs.Sections.{LinkedSection}
use Rattle.ldmodel.specs.Layout.{Layout, PlacedPiece}
use Rattle.ldmodel.specs.Project.{NamedObject, Project}
use Rattle.ldmodel.specs.Relocations.{Site, sites_of_section}
use Rattle.ldmodel.specs.Stayed.{LinkedPiece, linked_pieces}
use Rattle.ldmodel.specs.SymbolValues.{placed_part}
use Rattle.ldmodel.specs.declared.sections.Part.TheVariants.{InTable}
use Rattle.emit_relocate.specs.PreviousLinkInfo.{range_of}
use Rattle.emit.specs.declared.located_section.LocatedSection.{LocatedSection}

-- a section of an object is in the output, and starts there, with its bytes in this range of the file
pub record IsLocatedSection (project : Project) (layout : Layout) (object : NamedObject)
    (t : LocatedSection) : Type 0 where
  pub section : LinkedSection
  pub piece : PlacedPiece
  pub section_is : slice_get object.object.sections t.index.0 ≡ Some section
  pub placed : placed_part layout object.name (InTable section.number) ≡ Some piece
  pub stands : (piece : LinkedPiece) → Contains (linked_pieces project layout) piece → piece.object ≡ object.name
      → piece.part ≡ InTable section.number
      → (piece.start ≡ t.start) × (piece.range ≡ range_of t.range)

-- all sections of an object that are in the output, in their order, and where each stands
pub record HasLocatedSections (project : Project) (layout : Layout) (object : NamedObject)
    (located : List LocatedSection) : Type 0 where
  pub each : All (IsLocatedSection project layout object) located
  pub ascending : AllPairs (λ (t u : LocatedSection). t.index.0 < u.index.0) located
  pub all : (j : ℕ) (section : LinkedSection) (y : PlacedPiece) → slice_get object.object.sections j ≡ Some section
      → placed_part layout object.name (InTable section.number) ≡ Some y
      → (t : LocatedSection) × Contains located t × (t.index.0 ≡ j)

-- the sites of an object
abbrev pub sites_of : Layout → NamedObject → List Site
sites_of layout object = flat_map (sites_of_section layout object) object.object.sections

-- how many bytes of a section stand in the file as the object has them: none of a NOBITS section, which is 0 there
abbrev pub bytes_of : ObjectData → LocatedSection → ℕ
bytes_of o t =
    option_map_or (λ (section : LinkedSection). size_in_file section.kind t.range.length)
    (slice_get o.sections t.index.0) 0
