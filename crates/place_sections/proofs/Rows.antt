-- The row of the next output section.
use Rattle.place_sections.proofs.Common.{LayoutCursor, List, Naming, PlacedOutputs, [], ap, get_or, layout_of, length}
use Rattle.place_sections.proofs.Common.{length-map, next_row, row_named, rows_named, section_of, ◌∙◌, ◌≡◌}
use Rattle.std.proofs.Math.ListN.{get_or-map}
use Rattle.ldmodel.specs.declared.rows.Piece as code

pub next_row_is : (n : Naming) (rows : List (List code.Piece)) (h : LayoutCursor) (d : PlacedOutputs)
    → next_row (rows_named n rows) (layout_of n h d) ≡ row_named n (get_or rows (length d.sections.list) [])
next_row_is n rows h d =
    ap (λ k. get_or (rows_named n rows) k []) (length-map d.sections.list (section_of n))
    ∙ get_or-map (row_named n) rows (length d.sections.list) []
