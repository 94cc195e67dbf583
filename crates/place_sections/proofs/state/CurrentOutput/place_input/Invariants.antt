use Rattle.place_sections.proofs.state.CurrentOutput.place_input.Given as goal

abbrev pub ghost-place_pieces : goal.ghost-place_pieces
ghost-place_pieces g a = g.naming

abbrev pub ghost-keep_pieces : goal.ghost-keep_pieces
ghost-keep_pieces g a = g.naming
