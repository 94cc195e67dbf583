-- The names of the objects and input sections in a row. The code has keys for them, and no layout turns on them.
use Rattle.std.specs.Prelude.{ℕ, List, map}
use Rattle.ldmodel.specs.CodeValues.{piece_of}
use Rattle.ldmodel.specs.Rows.{Piece}
use Rattle.ldmodel.specs.declared.rows.Piece as rows
use Rattle.ldmodel.specs.declared.sections.SectionRef.{SectionRef}

-- the name of the object of a key, and that of an input section
pub record Naming : Type 0 where
  pub object : ℕ → List ℕ
  pub section : SectionRef → List ℕ

-- an entry of a row
abbrev pub piece_named : Naming → rows.Piece → Piece
piece_named n x = piece_of n.object n.section x

abbrev pub row_named : Naming → List rows.Piece → List Piece
row_named n row = map (piece_named n) row

abbrev pub rows_named : Naming → List (List rows.Piece) → List (List Piece)
rows_named n rows = map (row_named n) rows
