-- The entries so far are drawn.
use Rattle.emit.proofs.Common.{AreSources, IsRowAt, KnownLink, PlacedOutput, is_some, map, piece_in, take, ◌≡◌}
use Rattle.emit.proofs.OfRows.{AreDrawnAs}
use Rattle.emit.proofs.pieces.image_row.Given as goal

abbrev pub invariant-loop-k : goal.invariant-loop-k
invariant-loop-k g l =
    (link : KnownLink) (q : PlacedOutput) → link.project ≡ l.sources.project.now
    → AreSources link (λ key. is_some (g.E.PreviousLinkInfo.range l.sources.previous.now key))
    l.sources.indexed_layout.now l.sources.relocated.now
    → IsRowAt l.sources.project.now link.layout (map (piece_in l.sources.project.now) l.row) l.starts q
    → AreDrawnAs link.project link.layout (λ key. is_some (g.E.PreviousLinkInfo.range l.sources.previous.now key))
    (take l.k q.pieces)
    l.pieces.items
