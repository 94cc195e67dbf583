use Rattle.place_sections.proofs.Common.{Entered, body_of, drop, length, pieces_placed, row_named, ◌-◌, ◌≡◌}
use Rattle.place_sections.proofs.state.CurrentOutput.place_pieces.Given as goal

abbrev pub ghost-place_piece : goal.ghost-place_piece
ghost-place_piece g a = g.naming

abbrev pub invariant-loop-here : goal.invariant-loop-here
invariant-loop-here g l = record {
  gives : pieces_placed l.line l.number (body_of g.naming l.fn.here l.self)
      (row_named g.naming (drop (length l.fn.here.pieces.items) l.self.row.now))
      ≡ pieces_placed l.line l.number (body_of g.naming l.here l.self)
      (row_named g.naming (drop (length l.here.pieces.items) l.self.row.now));
  entered : Entered l.fn.here l.here l.self;
}

abbrev pub decreases-loop-here : goal.decreases-loop-here
decreases-loop-here g l = length l.self.row.now - length l.here.pieces.items
