-- The image, byte by byte: an executable file (gABI, "Object Files"; GNU ld manual, "Output Section Fill"). A byte is
-- found by the first case that holds at its offset: a header's; that of an output section with file bytes, which is
-- that of the field, else the input section, else the data command, else the gap that it lies in; the tail's; else 0.
-- `byte_at` and `placed_byte` have these cases in this order.
use Rattle.std.specs.Prelude.{ℕ, ◌+◌, ◌-◌, ◌%◌, max, List, [], ◌∷◌, ◌++◌, length, map, find, fold, slice_index, Option}
use Rattle.std.specs.Prelude.{Some, None, Bool, not, ◌&&◌, ◌==◌, nat_lt, nat_le, bytes_eq, filter, if◌then◌else◌}
use Rattle.std.specs.List.{range_with_len}
use Rattle.std.specs.Option.{option_and_then, option_map, option_map_or}
use Rattle.elfobj.specs.Sections.{LinkedSection}
use Rattle.elfobj.specs.declared.section.SectionIndex.{SectionIndex}
use Rattle.emit_fields.specs.Patches.{patch_covers}
use Rattle.emit_fields.specs.declared.patch.Patch.{Patch}
use Rattle.ldmodel.specs.Headers.{elf_header, program_headers}
use Rattle.ldmodel.specs.Layout.{Layout, PlacedPiece, PlacedData, PlacedOutput}
use Rattle.ldmodel.specs.Project.{NamedObject, Project}
use Rattle.ldmodel.specs.Relocations.{fields_of}
use Rattle.ldmodel.specs.SectionHeaders.{FilePart, header_part, header_count, header_names_number, tail, image_length}
use Rattle.ldmodel.specs.Segments.{Segment, SectionInFile, segments, in_file}
use Rattle.ldmodel.specs.SymbolValues.{entry_point, number_or_0}
use Rattle.ldmodel.specs.declared.sections.Part.{Part}
use Rattle.ldmodel.specs.declared.sections.Part.TheVariants.{InTable, InCommon}

-- of the cases of a byte, in this order, the first that holds; 0 where none does
abbrev pub first_of : List (Option ℕ) → ℕ
first_of [] = 0
first_of (Some byte ∷ cases) = byte
first_of (None ∷ cases) = first_of cases

-- a number lies among the first `size` from `start` on
abbrev pub covers : ℕ → ℕ → ℕ → Bool
covers start size x = nat_le start x && nat_lt x (start + size)

-- the ELF header and the program headers
unfoldable pub file_headers : Project → Layout → List ℕ
file_headers project layout =
    let gs : List Segment = segments layout.sections in
    elf_header (number_or_0 (entry_point project layout)) (length gs)
    ((header_part project layout).offset) (header_count layout) (header_names_number layout)
    ++ program_headers gs

abbrev pub object_named : Project → List ℕ → Option NamedObject
object_named project name = find (λ (object : NamedObject). bytes_eq object.name name) project.objects

abbrev pub section_numbered : NamedObject → SectionIndex → Option LinkedSection
section_numbered object index = find (λ (section : LinkedSection). section.number.0 == index.0) object.object.sections

-- the section of an object that an input section is, with its object; a common block is none
abbrev pub linked_part : Project → List ℕ → Part → Option (NamedObject × LinkedSection)
linked_part project name (InTable k) =
    option_and_then (λ (object : NamedObject). option_map (λ (section : LinkedSection). (object, section))
    (section_numbered object k))
    (object_named project name)
linked_part project name (InCommon x) = None

abbrev pub section_of_piece : Project → PlacedPiece → Option (NamedObject × LinkedSection)
section_of_piece project placed = linked_part project placed.piece.object placed.piece.part

-- byte i of a section, where a field covers it
abbrev pub field_byte : List Patch → ℕ → Option ℕ
field_byte fields i =
    option_map (λ (patch : Patch). slice_index patch.field (i - patch.offset))
    (find (λ (patch : Patch). patch_covers patch i) fields)

-- the byte of a field of an input section at an address
abbrev pub piece_field_byte : Project → Layout → ℕ → PlacedPiece → Option ℕ
piece_field_byte project layout at placed =
    option_and_then (λ (found : NamedObject × LinkedSection).
    field_byte (fields_of project layout found.0 found.1 placed.start)
    (at - placed.start))
    (section_of_piece project placed)

-- the byte that an input section itself has at an address: 0 for NOBITS and for a common block
abbrev pub own_byte : Project → ℕ → PlacedPiece → ℕ
own_byte project at placed =
    option_map_or (λ (found : NamedObject × LinkedSection). slice_index found.1.bytes (at - placed.start))
    (section_of_piece project placed) 0

-- the byte of a data command at an address
abbrev pub data_byte : ℕ → PlacedData → ℕ
data_byte at command = slice_index command.bytes (at - command.start)

-- where the input sections of nonzero size and the data commands of an output section end
abbrev pub ends_in : PlacedOutput → List ℕ
ends_in output =
    map (λ (placed : PlacedPiece). placed.start + placed.piece.size)
    (filter (λ (placed : PlacedPiece). not (placed.piece.size == 0)) output.pieces)
    ++ map (λ (command : PlacedData). command.start + length command.bytes) output.data_commands

-- the gap at an address begins at the last of these ends before it, or where the output section starts
abbrev pub gap_start : PlacedOutput → ℕ → ℕ
gap_start output at = fold (λ n end. if nat_le end at then max n end else n) output.start (ends_in output)

-- byte i of a gap: the fill's bytes over and over; 0 without a fill
abbrev pub fill_byte : Option (List ℕ) → ℕ → ℕ
fill_byte None i = 0
fill_byte (Some bytes) i = slice_index bytes (i % length bytes)

abbrev pub gap_byte : PlacedOutput → ℕ → ℕ
gap_byte output at = fill_byte output.fill (at - gap_start output at)

abbrev pub covering_piece : PlacedOutput → ℕ → Option PlacedPiece
covering_piece output at = find (λ (placed : PlacedPiece). covers placed.start placed.piece.size at) output.pieces

abbrev pub covering_data : PlacedOutput → ℕ → Option PlacedData
covering_data output at =
    find (λ (command : PlacedData). covers command.start (length command.bytes) at) output.data_commands

-- the cases of a byte of an output section, at an address
abbrev pub field_case : Project → Layout → PlacedOutput → ℕ → Option ℕ
field_case project layout output at = option_and_then (piece_field_byte project layout at) (covering_piece output at)

abbrev pub piece_case : Project → PlacedOutput → ℕ → Option ℕ
piece_case project output at = option_map (own_byte project at) (covering_piece output at)

abbrev pub data_case : PlacedOutput → ℕ → Option ℕ
data_case output at = option_map (data_byte at) (covering_data output at)

abbrev pub gap_case : PlacedOutput → ℕ → Option ℕ
gap_case output at = Some (gap_byte output at)

-- the byte of an output section at an address: of the field, the input section, the data command or the gap there
abbrev pub placed_byte : Project → Layout → PlacedOutput → ℕ → ℕ
placed_byte project layout output at =
    first_of (field_case project layout output at ∷ piece_case project output at ∷ data_case output at
    ∷ gap_case output at ∷ [])

-- the output section whose file bytes lie at an offset
abbrev pub file_section_at : Layout → ℕ → Option SectionInFile
file_section_at layout at =
    find (λ (x : SectionInFile). x.section.has_file_bytes && covers x.offset x.section.size at)
    (in_file (segments layout.sections))

-- the part of the tail that lies there
abbrev pub tail_at : Project → Layout → ℕ → Option FilePart
tail_at project layout at = find (λ (x : FilePart). covers x.offset (length x.bytes) at) (tail project layout)

-- the cases of a byte of the image, at an offset
abbrev pub header_case : Project → Layout → ℕ → Option ℕ
header_case project layout at =
    if nat_lt at (length (file_headers project layout))
    then Some (slice_index (file_headers project layout) at) else None

abbrev pub section_case : Project → Layout → ℕ → Option ℕ
section_case project layout at =
    option_map (λ (x : SectionInFile). placed_byte project layout x.section (x.section.start + (at - x.offset)))
    (file_section_at layout at)

abbrev pub tail_case : Project → Layout → ℕ → Option ℕ
tail_case project layout at =
    option_map (λ (x : FilePart). slice_index x.bytes (at - x.offset)) (tail_at project layout at)

-- the byte of the image at an offset: of the header, the output section or the part of the tail there, else 0
unfoldable pub byte_at : Project → Layout → ℕ → ℕ
byte_at project layout at =
    first_of (header_case project layout at ∷ section_case project layout at ∷ tail_case project layout at ∷ [])

-- the bytes 0, 1, .. up to the length
unfoldable pub image : Project → Layout → List ℕ
image project layout = map (byte_at project layout) (range_with_len 0 (image_length project layout))
