use Rattle.place_terms.proofs.Common.{KeyedPiece, drop, keyed_piece, map, ◌++◌, ◌≡◌}
use Rattle.place_terms.proofs.wholes.add_starts.Given as goal

abbrev pub invariant-loop-at : goal.invariant-loop-at
invariant-loop-at l =
    l.fn.list.items ++ map (λ (x : KeyedPiece). x.start) (map keyed_piece l.pieces)
    ≡ l.list.items ++ map (λ (x : KeyedPiece). x.start) (map keyed_piece (drop l.at-index l.pieces))
