-- What two links have in common (this project's own): the input sections that stayed where they were, with their bytes
-- in the same place of the image, and the relocations in them whose symbols have another value. An incremental link
-- need not write the bytes of input sections that stayed again, but for the fields of these relocations.
use Rattle.std.specs.Prelude.{Option, Some, None, ℕ, ◌+◌, ◌-◌, List, map, filter, flat_map, Bool, ◌&&◌, not, bytes_eq}
use Rattle.std.specs.Prelude.{if◌then◌else◌, [], ◌==◌}
use Rattle.std.specs.List.{list_any}
use Rattle.std.specs.Option.{option_map_or}
use Rattle.elfobj.specs.Sections.{LinkedSection}
use Rattle.ldmodel.specs.Image.{object_named, section_numbered}
use Rattle.ldmodel.specs.Layout.{Layout, PlacedPiece, PlacedOutput}
use Rattle.ldmodel.specs.Project.{NamedObject, Project}
use Rattle.ldmodel.specs.Relocations.{Site, sites_at, site_value}
use Rattle.ldmodel.specs.Sections.{is_same_part}
use Rattle.ldmodel.specs.Segments.{Segment, segments, file_offset}
use Rattle.ldmodel.specs.SymbolValues.{number_or_0}
use Rattle.ldmodel.specs.declared.sections.Part.{Part}
use Rattle.ldmodel.specs.declared.sections.Part.TheVariants.{InTable, InCommon}

-- bytes of a file
pub record FileRange : Type 0 where
  pub offset : ℕ
  pub length : ℕ

-- an input section in the output: its object's name and bytes, which part of the object it is, its address and size,
-- and its bytes in the image
pub record LinkedPiece : Type 0 where
  pub object : List ℕ
  pub text : List ℕ
  pub part : Part
  pub start : ℕ
  pub size : ℕ
  pub range : FileRange

-- no bytes, where the output section has none in the file
abbrev pub range_in : List Segment → PlacedOutput → PlacedPiece → FileRange
range_in segments output placed =
    if output.has_file_bytes && not (placed.piece.size == 0)
    then record { offset = file_offset segments output + (placed.start - output.start); length = placed.piece.size }
    else record { offset = 0; length = 0 }

abbrev pub text_of : Project → List ℕ → List ℕ
text_of project object = option_map_or (λ (object : NamedObject). object.object.text) (object_named project object) []

abbrev pub linked_piece : Project → List Segment → PlacedOutput → PlacedPiece → LinkedPiece
linked_piece project segments output placed = record {
  object = placed.piece.object;
  text = text_of project placed.piece.object;
  part = placed.piece.part;
  start = placed.start;
  size = placed.piece.size;
  range = range_in segments output placed;
}

-- the input sections in the output, in their order
unfoldable pub linked_pieces : Project → Layout → List LinkedPiece
linked_pieces project layout = flat_map (λ (output : PlacedOutput). map
    (linked_piece project (segments layout.sections) output) output.pieces) layout.sections

abbrev pub same_range : FileRange → FileRange → Bool
same_range a b = (a.offset == b.offset) && (a.length == b.length)

abbrev pub same_piece : LinkedPiece → LinkedPiece → Bool
same_piece piece y =
    bytes_eq piece.object y.object && bytes_eq piece.text y.text && is_same_part piece.part y.part
    && (piece.start == y.start)
    && (piece.size == y.size) && same_range piece.range y.range

-- a project and a layout. Links without faults are meant, with the layout that `layout` gives; what is said here of two
-- such holds of any two
pub record GoodLink : Type 0 where
  pub project : Project
  pub layout : Layout

abbrev pub link_pieces : GoodLink → List LinkedPiece
link_pieces link = linked_pieces link.project link.layout

-- an input section of the new link that the old one has too
abbrev pub has_stayed : GoodLink → LinkedPiece → Bool
has_stayed old piece = list_any (same_piece piece) (link_pieces old)

unfoldable pub stayed : GoodLink → GoodLink → List LinkedPiece
stayed old new = filter (has_stayed old) (link_pieces new)

abbrev pub sites_in_section : NamedObject → LinkedPiece → Option LinkedSection → List Site
sites_in_section object piece None = []
sites_in_section object piece (Some section) = sites_at object section piece.start

-- the sites of an input section; a common block has none
abbrev pub sites_in_part : Project → LinkedPiece → Part → List Site
sites_in_part project piece (InTable index) =
    option_map_or (λ (object : NamedObject). sites_in_section object piece (section_numbered object index))
    (object_named project piece.object) []
sites_in_part project piece (InCommon index) = []

abbrev pub sites_in : Project → LinkedPiece → List Site
sites_in project piece = sites_in_part project piece piece.part

-- the value of a site's symbol in a link; a link without faults has one for each site
abbrev pub site_value_in : GoodLink → Site → ℕ
site_value_in link site = number_or_0 (site_value link.project link.layout site)

-- the site's symbol has another value
abbrev pub has_other_value : GoodLink → GoodLink → Site → Bool
has_other_value old new site = not (site_value_in old site == site_value_in new site)

-- the sites in input sections that stayed whose symbol has another value
unfoldable pub retargeted : GoodLink → GoodLink → List Site
retargeted old new = filter (has_other_value old new) (flat_map (sites_in new.project) (stayed old new))
