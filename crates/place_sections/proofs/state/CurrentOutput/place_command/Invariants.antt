use Rattle.place_sections.proofs.state.CurrentOutput.place_command.Given as goal

abbrev pub ghost-advance : goal.ghost-advance
ghost-advance g a = g.naming

abbrev pub ghost-set_dot : goal.ghost-set_dot
ghost-set_dot g a = g.naming

abbrev pub ghost-directive : goal.ghost-directive
ghost-directive g a = g.naming

abbrev pub ghost-place_data : goal.ghost-place_data
ghost-place_data g a = g.naming

abbrev pub ghost-place_input : goal.ghost-place_input
ghost-place_input g a = g.naming
