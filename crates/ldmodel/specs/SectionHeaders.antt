-- The section headers of the image, and where the parts of its tail stand (gABI, "Section Header"). The headers are a
-- null header, one for each output section, and those of the three tables. Where the tail stands is this project's
-- choice: `.symtab` past the loaded part of the file, aligned to 8, the two string tables right after it, and then the
-- headers, aligned to 8; there the image ends.
use Rattle.std.specs.Prelude.{ℕ, ◌+◌, ◌%◌, List, [], ◌∷◌, ◌++◌, length, map, replicate, codes, ◌==◌, if◌then◌else◌}
use Rattle.std.specs.Prelude.{◌^◌, flat_map}
use Rattle.std.specs.List.{enumerate_from}
use Rattle.std.specs.Int.{to_le_bytes, next_multiple_of, w32, w64}
use Rattle.elfobj.specs.file.declared.constants.TheConstants.{SHT_PROGBITS, SHT_SYMTAB, SHT_STRTAB, SHT_NOBITS}
use Rattle.elfobj.specs.file.declared.constants.TheConstants.{SHF_WRITE}
use Rattle.elfobj.specs.file.declared.constants.TheConstants.{SHF_ALLOC, SHF_EXECINSTR}
use Rattle.ldmodel.specs.Layout.{Layout, PlacedOutput}
use Rattle.ldmodel.specs.Project.{Project}
use Rattle.ldmodel.specs.Segments.{Segment, segments, loaded_end, file_offset}
use Rattle.ldmodel.specs.Tail.{string_table, name_offset, output_symbol_table, symbol_name_table}

-- Elf64_Shdr, 64 bytes, in the order of its fields
pub record SectionHeader : Type 0 where
  pub name : ℕ
  pub type : ℕ
  pub flags : ℕ
  pub address : ℕ
  pub offset : ℕ
  pub size : ℕ
  pub link : ℕ
  pub info : ℕ
  pub alignment : ℕ
  pub entry_size : ℕ

abbrev pub header_bytes : SectionHeader → List ℕ
header_bytes h =
    to_le_bytes w32 h.name ++ to_le_bytes w32 h.type ++ to_le_bytes w64 h.flags ++ to_le_bytes w64 h.address
    ++ to_le_bytes w64 h.offset ++ to_le_bytes w64 h.size ++ to_le_bytes w32 h.link ++ to_le_bytes w32 h.info
    ++ to_le_bytes w64 h.alignment ++ to_le_bytes w64 h.entry_size

-- the names in the order of the headers, from number 1 on
abbrev pub header_names : Layout → List (List ℕ)
header_names layout =
    map (λ (output : PlacedOutput). output.name) layout.sections
    ++ codes ".symtab" ∷ codes ".strtab" ∷ codes ".shstrtab" ∷ []

-- `.shstrtab`
unfoldable pub header_name_table : Layout → List ℕ
header_name_table layout = string_table (header_names layout)

-- the bytes of a part of the tail, and where they stand
pub record FilePart : Type 0 where
  pub offset : ℕ
  pub bytes : List ℕ

abbrev pub end_of_part : FilePart → ℕ
end_of_part x = x.offset + length x.bytes

-- the three tables, the first past the end of the loaded part
pub record Tables : Type 0 where
  pub symbols : FilePart
  pub symbol_names : FilePart
  pub header_names : FilePart

abbrev pub part_at : ℕ → List ℕ → FilePart
part_at offset bytes = record { offset = offset; bytes = bytes }

unfoldable pub tables : Project → Layout → Tables
tables project layout =
    let symbols : FilePart =
    part_at (next_multiple_of (loaded_end (segments layout.sections)) 8) (output_symbol_table project layout) in
    let symbol_names : FilePart = part_at (end_of_part symbols) (symbol_name_table project layout) in
    record {
      symbols = symbols;
      symbol_names = symbol_names;
      header_names = part_at (end_of_part symbol_names) (header_name_table layout);
    }

-- the flags of an output section
abbrev pub section_flags : PlacedOutput → ℕ
section_flags output =
    SHF_ALLOC + (if output.writable then SHF_WRITE else 0) + (if output.executable then SHF_EXECINSTR else 0)

-- an address that was given may be no multiple of the alignment: then 1 stands in its place
abbrev pub stated_alignment : PlacedOutput → ℕ
stated_alignment output = if output.start % output.alignment == 0 then output.alignment else 1

-- the header of output section number i. sh_offset has 64 bits: it is modulo 2^64. In a link without faults only that
-- of a section without file bytes can be as great, since an image has its limit
abbrev pub output_header : Layout → List Segment → ℕ × PlacedOutput → SectionHeader
output_header layout segments numbered = record {
  name = name_offset (header_names layout) numbered.0;
  type = if numbered.1.has_file_bytes then SHT_PROGBITS else SHT_NOBITS;
  flags = section_flags numbered.1;
  address = numbered.1.start;
  offset = file_offset segments numbered.1 % 2 ^ 64;
  size = numbered.1.size;
  link = 0;
  info = 0;
  alignment = stated_alignment numbered.1;
  entry_size = 0;
}

abbrev pub table_header : (name type : ℕ) → FilePart → (link info alignment entry_size : ℕ) → SectionHeader
table_header name type part link info alignment entry_size = record {
  name = name;
  type = type;
  flags = 0;
  address = 0;
  offset = part.offset;
  size = length part.bytes;
  link = link;
  info = info;
  alignment = alignment;
  entry_size = entry_size;
}

-- those of the tables, where k output sections stand before; sh_link of `.symtab` is its string table, and sh_info the
-- number of its first symbol that isn't local
abbrev pub table_headers : ℕ → List (List ℕ) → Tables → List SectionHeader
table_headers k names tables =
    table_header (name_offset names k) SHT_SYMTAB tables.symbols (k + 2) 1 8 24
    ∷ table_header (name_offset names (k + 1)) SHT_STRTAB tables.symbol_names 0 0 1 0
    ∷ table_header (name_offset names (k + 2)) SHT_STRTAB tables.header_names 0 0 1 0
    ∷ []

-- all headers, the null header first
unfoldable pub section_headers : Project → Layout → List ℕ
section_headers project layout =
    replicate 64 0
    ++ flat_map (λ x. header_bytes (output_header layout (segments layout.sections) x))
    (enumerate_from 0 layout.sections)
    ++ flat_map header_bytes (table_headers (length layout.sections) (header_names layout) (tables project layout))

-- how many headers there are, and the number of that of their names
abbrev pub header_count : Layout → ℕ
header_count layout = length layout.sections + 4

abbrev pub header_names_number : Layout → ℕ
header_names_number layout = length layout.sections + 3

-- the section headers in their place
unfoldable pub header_part : Project → Layout → FilePart
header_part project layout =
    part_at (next_multiple_of (end_of_part ((tables project layout).header_names)) 8) (section_headers project layout)

-- the parts of the tail
abbrev pub tail : Project → Layout → List FilePart
tail project layout =
    let t : Tables = tables project layout in
    t.symbols ∷ t.symbol_names ∷ t.header_names ∷ header_part project layout ∷ []

-- the length of the image
unfoldable pub image_length : Project → Layout → ℕ
image_length project layout = end_of_part (header_part project layout)
