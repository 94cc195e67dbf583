use Rattle.place_sections.proofs.Common.{drop, row_named, widest, ◌<◌, ◌≡◌}
use Rattle.place_sections.proofs.head.widest_of.Given as goal

abbrev pub invariant-loop-piece : goal.invariant-loop-piece
invariant-loop-piece g l = record {
  value : widest l.alignment (row_named g.naming l.row)
      ≡ widest l.widest (row_named g.naming (drop l.piece-index l.row));
  positive : 0 < l.widest;
}
