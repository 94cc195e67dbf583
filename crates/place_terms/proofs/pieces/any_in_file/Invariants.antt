use Rattle.place_terms.proofs.Common.{drop, is_in_file, keyed_piece, list_any, map, piece_at, ◌≡◌}
use Rattle.place_terms.proofs.pieces.any_in_file.Given as goal

abbrev pub ghost-is_in_file : goal.ghost-is_in_file
ghost-is_in_file g a = g.naming

abbrev pub invariant-loop-at : goal.invariant-loop-at
invariant-loop-at g l =
    list_any is_in_file (map (piece_at g.naming) (map keyed_piece l.pieces))
    ≡ list_any is_in_file (map (piece_at g.naming) (map keyed_piece (drop l.at-index l.pieces)))
