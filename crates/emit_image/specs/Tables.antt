-- The values that the tail is made of: that they are those of a link.
use Rattle.std.specs.Prelude.{◌≡◌, ℕ, ◌+◌, ◌%◌, ◌^◌, List, [], ◌∷◌, ◌++◌, map, flat_map, replicate, Bool, codes, length}
use Rattle.std.specs.Int.{next_multiple_of}
use Rattle.std.specs.Prelude.{◌==◌, if◌then◌else◌}
use Rattle.std.specs.List.{AllZip, enumerate_from}
use Rattle.elfobj.specs.file.declared.constants.TheConstants.{SHT_PROGBITS, SHT_NOBITS, SHF_WRITE, SHF_ALLOC}
use Rattle.elfobj.specs.file.declared.constants.TheConstants.{SHF_EXECINSTR}
use Rattle.elfobj.specs.file.declared.constants.TheConstants.{STB_GLOBAL, STB_WEAK}
use Rattle.ldmodel.specs.Layout.{Layout, PlacedOutput}
use Rattle.ldmodel.specs.PlacementView.{placed_of}
use Rattle.ldmodel.specs.Project.{Project}
use Rattle.ldmodel.specs.SectionHeaders.{SectionHeader, FilePart, Tables, end_of_part, header_bytes, part_at}
use Rattle.ldmodel.specs.SectionHeaders.{table_headers}
use Rattle.ldmodel.specs.Segments.{segments, file_offset, loaded_end}
use Rattle.ldmodel.specs.Tail.{SymbolEntry, ValuedSymbol, name_offset, kind_number, symbol_bytes, table_symbols}
use Rattle.ldmodel.specs.Tail.{st_binding, st_type_of, st_shndx, st_size, string_table}
use Rattle.ldmodel.specs.declared.placed.Placed.{Placed}
use Rattle.emit_image.specs.declared.sections.TableSection.{TableSection}
use Rattle.emit_image.specs.declared.symbols.SymbolTables.{SymbolTables}
use Rattle.emit_image.specs.declared.symbols.TableSymbol.{TableSymbol}

-- STB_WEAK or STB_GLOBAL
abbrev pub binding_number : Bool → ℕ
binding_number weak = if weak then STB_WEAK else STB_GLOBAL

-- a symbol of the table
pub record IsTableSymbol (project : Project) (layout : Layout) (x : ValuedSymbol) (y : TableSymbol) : Type 0 where
  pub name : y.name.now ≡ x.name
  pub binding : binding_number y.weak ≡ st_binding x.decision
  pub type : kind_number y.kind ≡ st_type_of project x.decision
  pub section : y.section ≡ st_shndx project layout x.decision
  pub value : y.value ≡ x.value
  pub size : y.size ≡ st_size project x.decision

-- an output section, with where it begins in the file
pub record IsTableSection (layout : Layout) (output : PlacedOutput) (y : TableSection) : Type 0 where
  pub name : y.name.now ≡ output.name
  pub placed : y.placed ≡ placed_of output
  pub offset : y.offset ≡ file_offset (segments layout.sections) output % 2 ^ 64

-- all that the tail of a link is made of
pub record IsTailOf (project : Project) (layout : Layout) (end : ℕ) (xs : List TableSymbol) (ys : List TableSection)
    : Type 0 where
  pub begins : end ≡ loaded_end (segments layout.sections)
  pub symbols : AllZip (IsTableSymbol project layout) (table_symbols project layout) xs
  pub sections : AllZip (IsTableSection layout) layout.sections ys

-- an entry of the symbol table, where the symbols have these names
abbrev pub entry_of : List (List ℕ) → ℕ × TableSymbol → SymbolEntry
entry_of names x = record {
  name = name_offset names x.0;
  binding = binding_number x.1.weak;
  type = kind_number x.1.kind;
  section = x.1.section;
  value = x.1.value;
  size = x.1.size;
}

abbrev pub names_of : List TableSymbol → List (List ℕ)
names_of symbols = map (λ (y : TableSymbol). y.name.now) symbols

-- the symbol table
unfoldable pub symbol_table_of : List TableSymbol → List ℕ
symbol_table_of symbols =
    replicate 24 0 ++ flat_map (λ x. symbol_bytes (entry_of (names_of symbols) x)) (enumerate_from 0 symbols)

-- the symbol table of these symbols, and their names
pub record AreTablesOf (symbols : List TableSymbol) (tables : SymbolTables) : Type 0 where
  pub entries : tables.entries ≡ symbol_table_of symbols
  pub names : tables.names ≡ string_table (names_of symbols)

-- the flags of an output section
abbrev pub flags_of : Placed → ℕ
flags_of q = SHF_ALLOC + (if q.writable then SHF_WRITE else 0) + (if q.executable then SHF_EXECINSTR else 0)

abbrev pub alignment_of : Placed → ℕ
alignment_of q = if q.start % q.alignment == 0 then q.alignment else 1

-- the names of the section headers, from number 1 on
abbrev pub header_names_of : List TableSection → List (List ℕ)
header_names_of sections =
    map (λ (y : TableSection). y.name.now) sections ++ codes ".symtab" ∷ codes ".strtab" ∷ codes ".shstrtab" ∷ []

-- the header of an output section
abbrev pub section_header_of : List (List ℕ) → ℕ × TableSection → SectionHeader
section_header_of names x = record {
  name = name_offset names x.0;
  type = if x.1.placed.has_file_bytes then SHT_PROGBITS else SHT_NOBITS;
  flags = flags_of x.1.placed;
  address = x.1.placed.start;
  offset = x.1.offset;
  size = x.1.placed.size;
  link = 0;
  info = 0;
  alignment = alignment_of x.1.placed;
  entry_size = 0;
}

-- the three tables, the first past the end of the loaded part
unfoldable pub tables_of : ℕ → List TableSymbol → List TableSection → Tables
tables_of end xs ys =
    let symbols : FilePart = part_at (next_multiple_of end 8) (symbol_table_of xs) in
    let symbol_names : FilePart = part_at (end_of_part symbols) (string_table (names_of xs)) in
    record {
      symbols = symbols;
      symbol_names = symbol_names;
      header_names = part_at (end_of_part symbol_names) (string_table (header_names_of ys));
    }

-- the null header and those of the output sections
unfoldable pub output_headers_of : List TableSection → List ℕ
output_headers_of ys =
    replicate 64 0 ++ flat_map (λ x. header_bytes (section_header_of (header_names_of ys) x)) (enumerate_from 0 ys)

-- the section headers in their place
unfoldable pub header_part_of : ℕ → List TableSymbol → List TableSection → FilePart
header_part_of end xs ys =
    let t : Tables = tables_of end xs ys in
    part_at (next_multiple_of (end_of_part t.header_names) 8)
    (output_headers_of ys ++ flat_map header_bytes (table_headers (length ys) (header_names_of ys) t))

-- the parts of the tail
abbrev pub tail_of : ℕ → List TableSymbol → List TableSection → List FilePart
tail_of end xs ys =
    let t : Tables = tables_of end xs ys in
    t.symbols ∷ t.symbol_names ∷ t.header_names ∷ header_part_of end xs ys ∷ []
