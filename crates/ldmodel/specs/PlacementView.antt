-- What a placement lends and the segments that are made of it, as the code hands them on, and the layout that they
-- stand for (this project's own).
use Rattle.std.specs.Prelude.{◌≡◌, ℕ, List, [], map, flat_map, Some, slice_get}
use Rattle.std.specs.List.{enumerate_from, last_or, AllZip}
use Rattle.std.specs.Option.{option_map_or}
use Rattle.byteorder.specs.Endian.{little_bytes}
use Rattle.ldscript.specs.statements.Numbering.{DirectiveAt, all_directives}
use Rattle.ldscript.specs.statements.Widths.{byte_count}
use Rattle.ldscript.specs.statements.declared.directive.Directive.{Directive}
use Rattle.ldscript.specs.statements.declared.directive.Directive.TheVariants as directive
use Rattle.ldscript.specs.statements.declared.statement.Statement.{Statement}
use Rattle.ldmodel.specs.Layout.{Layout, MemoryRegion, PlacedPiece, PlacedOutput, PlacedData, ScriptSymbol}
use Rattle.ldmodel.specs.Segments.{Segment, segment_start, segment_load, file_size, memory_size}
use Rattle.ldmodel.specs.declared.placed.PlacementView.{PlacementView}
use Rattle.ldmodel.specs.declared.placed.Placed.{Placed}
use Rattle.ldmodel.specs.declared.placed.PlacedData as code_data
use Rattle.ldmodel.specs.declared.placed.PlacedRegion.{PlacedRegion}
use Rattle.ldmodel.specs.declared.script_symbol.ScriptSymbol as code_symbol
use Rattle.ldmodel.specs.declared.segment.Segment as code

-- the numbers of an output section
abbrev pub placed_of : PlacedOutput → Placed
placed_of output = record {
  start = output.start;
  size = output.size;
  load = output.load;
  has_file_bytes = output.has_file_bytes;
  load_size = output.load_size;
  alignment = output.alignment;
  writable = output.writable;
  executable = output.executable;
}

abbrev pub starts_of : PlacedOutput → List ℕ
starts_of output = map (λ (placed : PlacedPiece). placed.start) output.pieces

-- a data command, with the number of its output section
pub record NumberedData : Type 0 where
  pub section : ℕ
  pub start : ℕ
  pub bytes : List ℕ

abbrev pub numbered : ℕ × PlacedOutput → List NumberedData
numbered q = map (λ (d : PlacedData). record { section = q.0; start = d.start; bytes = d.bytes }) q.1.data_commands

abbrev pub data_of : code_data.PlacedData → NumberedData
data_of d = record { section = d.section.0; start = d.start; bytes = little_bytes (byte_count d.width) d.value }

abbrev pub given_name : Directive → List ℕ
given_name (directive.Assign a) = a.name
given_name (directive.Provide a) = a.name
given_name (directive.Assert a) = []

-- the name that a command gives a value to
abbrev pub name_given_by : List Statement → ℕ → List ℕ
name_given_by script k =
    option_map_or (λ (c : DirectiveAt). given_name c.command) (slice_get (all_directives script) k) []

abbrev pub symbol_of : List Statement → code_symbol.ScriptSymbol → ScriptSymbol
symbol_of script x = record { name = name_given_by script x.command.0; value = x.value }

abbrev pub region_of : MemoryRegion → PlacedRegion
region_of region = record { origin = region.origin; extent = region.extent }

-- what is lent is the layout of a script
pub record IsPlacementView (script : List Statement) (layout : Layout) (view : PlacementView) : Type 0 where
  pub sections : view.sections.now ≡ map placed_of layout.sections
  pub starts : view.starts.now ≡ flat_map starts_of layout.sections
  pub data_commands : map data_of view.data_commands.now ≡ flat_map numbered (enumerate_from 0 layout.sections)
  pub dots : view.dots.now ≡ layout.dots
  pub symbols : map (symbol_of script) view.symbols.now ≡ layout.symbols
  pub regions : view.regions.now ≡ map region_of layout.regions

-- a segment of the code
pub record IsSegment (sections : List PlacedOutput) (segment : Segment) (x : code.Segment) : Type 0 where
  pub offset : x.offset ≡ segment.offset
  pub start : x.start ≡ segment_start segment
  pub load : x.load ≡ segment_load segment
  pub in_file : x.file_size ≡ file_size segment.group
  pub in_memory : x.memory_size ≡ memory_size segment.group
  pub writable : x.writable ≡ segment.group.first.writable
  pub executable : x.executable ≡ segment.group.first.executable
  pub first : slice_get sections x.first.0 ≡ Some segment.group.first
  pub last : slice_get sections x.last.0 ≡ last_or (Some segment.group.first) segment.group.others

-- the segments of a link
abbrev pub AreSegments : List PlacedOutput → List Segment → List code.Segment → Type 0
AreSegments sections gs xs = AllZip (IsSegment sections) gs xs
