use Rattle.place_sections.proofs.state.CurrentOutput.place_statement.Given as goal

abbrev pub ghost-place_command : goal.ghost-place_command
ghost-place_command g a = g.naming
