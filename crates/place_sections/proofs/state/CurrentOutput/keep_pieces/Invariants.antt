use Rattle.place_sections.proofs.Common.{StartAt, StaysThere, body_of, drop, length, pieces_placed, row_named, ◌-◌, ◌≡◌}
use Rattle.place_sections.proofs.state.CurrentOutput.keep_pieces.Given as goal

abbrev pub ghost-put_piece : goal.ghost-put_piece
ghost-put_piece g a = g.naming

abbrev pub invariant-loop-here : goal.invariant-loop-here
invariant-loop-here g l = record {
  gives : pieces_placed l.line l.number (body_of g.naming l.fn.here l.self)
      (row_named g.naming (drop (length l.fn.here.pieces.items) l.self.row.now))
      ≡ pieces_placed l.line l.number (body_of g.naming l.here l.self)
      (row_named g.naming (drop (length l.here.pieces.items) l.self.row.now));
  there : StaysThere l.fn.here l.here l.self;
  anew : l.here.anew ≡ l.fn.here.anew;
  kept : StartAt l.number l.here.dot (row_named g.naming (drop (length l.here.pieces.items) l.self.row.now))
      (drop (length l.here.pieces.items) l.starts);
}

abbrev pub decreases-loop-here : goal.decreases-loop-here
decreases-loop-here g l = length l.self.row.now - length l.here.pieces.items
