-- Bytes of the image that come from input sections.
use Rattle.std.specs.Prelude.{◌≡◌, ℕ, ◌+◌, ◌-◌, List, false, bytes_eq}
use Rattle.ldmodel.specs.Layout.{PlacedPiece, PlacedOutput}
use Rattle.ldmodel.specs.Segments.{Segment, file_offset}
use Rattle.ldmodel_laws.specs.Spread.{EachLater}

-- no two output sections have one name, as the script reader has found
abbrev pub AreNamed : List PlacedOutput → Type 0
AreNamed sections = EachLater (λ (output r : PlacedOutput). bytes_eq output.name r.name ≡ false) sections

-- where an input section begins in the file
abbrev pub offset_in_file : List Segment → PlacedOutput → PlacedPiece → ℕ
offset_in_file gs output placed = file_offset gs output + (placed.start - output.start)
