use Rattle.place_sections.proofs.state.CurrentOutput.place_piece.Given as goal

abbrev pub ghost-put_piece : goal.ghost-put_piece
ghost-put_piece g a = g.naming
