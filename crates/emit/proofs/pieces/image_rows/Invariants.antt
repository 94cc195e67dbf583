-- The rows so far are drawn.
use Rattle.emit.proofs.Common.{is_some, map, rows_in, vec_items}
use Rattle.emit.proofs.AllRows.{RowsSoFar}
use Rattle.emit.proofs.pieces.image_rows.Given as goal

abbrev pub invariant-loop-row : goal.invariant-loop-row
invariant-loop-row g l =
    RowsSoFar l.sources.project.now (λ k. is_some (g.E.PreviousLinkInfo.range l.sources.previous.now k))
    l.sources.indexed_layout.now l.sources.relocated.now
    (rows_in l.sources.project.now l.sources.indexed_layout.now.rows.items) l.starts l.row-index l.at
    (map vec_items l.pieces.items)
