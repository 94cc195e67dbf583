-- Output sections in their places, whose input sections have keys in place of names, and what they stand for.
use Rattle.std.specs.Prelude.{ℕ, List, map, Option}
use Rattle.byteorder.specs.Endian.{little_bytes}
use Rattle.ldscript.specs.statements.Widths.{byte_count}
use Rattle.ldmodel.specs.Layout.{PlacedPiece, PlacedOutput, PlacedData}
use Rattle.ldmodel.specs.declared.placed.Placed.{Placed}
use Rattle.ldmodel.specs.declared.placed.PlacedData as code
use Rattle.ldmodel.specs.declared.rows.Piece as rows
use Rattle.place_terms.specs.Naming.{Naming, piece_named}
use Rattle.place_terms.specs.declared.sections.DataAt.{DataAt}

-- an input section in its place
pub record KeyedPiece : Type 0 where
  pub start : ℕ
  pub piece : rows.Piece

-- an output section in its place
pub record KeyedSection : Type 0 where
  pub name : List ℕ
  pub region : Option (List ℕ)
  pub fill : Option (List ℕ)
  pub placed : Placed
  pub pieces : List KeyedPiece
  pub data_commands : List DataAt

abbrev pub piece_at : Naming → KeyedPiece → PlacedPiece
piece_at n x = record { start = x.start; piece = piece_named n x.piece }

-- a data command of a previous layout
abbrev pub data_at_of : code.PlacedData → DataAt
data_at_of d = record { start = d.start; width = d.width; value = d.value }

abbrev pub data_at : DataAt → PlacedData
data_at d = record { start = d.start; bytes = little_bytes (byte_count d.width) d.value }

abbrev pub section_of : Naming → KeyedSection → PlacedOutput
section_of n x = record {
  name = x.name;
  region = x.region;
  alignment = x.placed.alignment;
  start = x.placed.start;
  size = x.placed.size;
  load = x.placed.load;
  has_file_bytes = x.placed.has_file_bytes;
  load_size = x.placed.load_size;
  writable = x.placed.writable;
  executable = x.placed.executable;
  fill = x.fill;
  pieces = map (piece_at n) x.pieces;
  data_commands = map data_at x.data_commands;
}
