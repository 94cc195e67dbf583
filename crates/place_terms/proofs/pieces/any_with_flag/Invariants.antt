use Rattle.place_terms.proofs.Common.{PlacedPiece, bit_and, drop, is_empty, keyed_piece, list_any, map, not, piece_at}
use Rattle.place_terms.proofs.Common.{◌&&◌, ◌==◌, ◌≡◌}
use Rattle.place_terms.proofs.pieces.any_with_flag.Given as goal

abbrev pub invariant-loop-at : goal.invariant-loop-at
invariant-loop-at g l =
    list_any (λ (x : PlacedPiece). not (bit_and x.piece.flags l.flag == 0)
    && not (is_empty x)) (map (piece_at g.naming) (map keyed_piece l.pieces))
    ≡ list_any (λ (x : PlacedPiece). not (bit_and x.piece.flags l.flag == 0)
    && not (is_empty x)) (map (piece_at g.naming) (map keyed_piece (drop l.at-index l.pieces)))
