use Rattle.place_sections.proofs.state.PlacedOutputs.load_end.Given as goal

abbrev pub ghost-check_room : goal.ghost-check_room
ghost-check_room g a = g.naming
