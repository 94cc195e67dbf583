-- The byte of the image by cases that stand in one another, as the laws and the code find it: a header's; else that of
-- the output section there, which is that of the input section, with its fields, else that of the data command, else
-- that of the gap; else the tail's. `Image` has the same cases in one list each.
use Rattle.std.specs.Prelude.{ℕ, ◌+◌, ◌-◌, List, Option, Some, None, slice_index}
use Rattle.std.specs.Option.{option_map_or}
use Rattle.elfobj.specs.Sections.{LinkedSection}
use Rattle.elfobj.specs.declared.section.SectionIndex.{SectionIndex}
use Rattle.emit_fields.specs.Patches.{patched_byte}
use Rattle.ldmodel.specs.Image.{covering_data, covering_piece, data_byte, gap_byte, object_named, section_numbered}
use Rattle.ldmodel.specs.Layout.{Layout, PlacedData, PlacedPiece, PlacedOutput}
use Rattle.ldmodel.specs.Project.{NamedObject, Project}
use Rattle.ldmodel.specs.Relocations.{fields_of}
use Rattle.ldmodel.specs.SectionHeaders.{FilePart}
use Rattle.ldmodel.specs.Segments.{SectionInFile}
use Rattle.ldmodel.specs.declared.sections.Part.{Part}
use Rattle.ldmodel.specs.declared.sections.Part.TheVariants.{InTable, InCommon}

-- byte i of a section that starts at an address: that of the field that covers it, else its own, which is 0 for NOBITS
abbrev pub section_byte : Project → Layout → NamedObject → ℕ → ℕ → LinkedSection → ℕ
section_byte project layout object start i section =
    patched_byte section.bytes (fields_of project layout object section start) i

abbrev pub object_byte : Project → Layout → SectionIndex → ℕ → ℕ → NamedObject → ℕ
object_byte project layout k start i object =
    option_map_or (section_byte project layout object start i) (section_numbered object k) 0

-- a common block is 0
abbrev pub part_byte : Project → Layout → List ℕ → Part → ℕ → ℕ → ℕ
part_byte project layout object (InTable k) start i =
    option_map_or (object_byte project layout k start i) (object_named project object) 0
part_byte project layout object (InCommon x) start i = 0

-- the byte of an input section at an address
abbrev pub piece_byte : Project → Layout → ℕ → PlacedPiece → ℕ
piece_byte project layout at placed =
    part_byte project layout placed.piece.object placed.piece.part placed.start (at - placed.start)

-- of the input section that lies there, else of the data command, else of the gap
abbrev pub byte_among : Project → Layout → PlacedOutput → ℕ → Option PlacedPiece → Option PlacedData → ℕ
byte_among project layout output at (Some x) d = piece_byte project layout at x
byte_among project layout output at None (Some d) = data_byte at d
byte_among project layout output at None None = gap_byte output at

-- the byte of an output section at an address
abbrev pub output_byte : Project → Layout → PlacedOutput → ℕ → ℕ
output_byte project layout output at =
    byte_among project layout output at (covering_piece output at) (covering_data output at)

-- the byte at an offset past the headers: of the output section there, else of the part of the tail
abbrev pub byte_past_headers : Project → Layout → ℕ → Option SectionInFile → Option FilePart → ℕ
byte_past_headers project layout o (Some x) t = output_byte project layout x.section (x.section.start + (o - x.offset))
byte_past_headers project layout o None (Some t) = slice_index t.bytes (o - t.offset)
byte_past_headers project layout o None None = 0
