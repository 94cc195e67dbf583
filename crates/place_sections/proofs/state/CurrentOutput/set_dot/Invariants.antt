use Rattle.place_sections.proofs.state.CurrentOutput.set_dot.Given as goal

abbrev pub ghost-advance : goal.ghost-advance
ghost-advance g a = g.naming

abbrev pub ghost-number : goal.ghost-number
ghost-number g a = g.naming

abbrev pub ghost-go_to : goal.ghost-go_to
ghost-go_to g a = g.naming
