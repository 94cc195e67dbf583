use Rattle.place_sections.proofs.place.place.Given as goal

abbrev pub ghost-lay_out : goal.ghost-lay_out
ghost-lay_out g a = g.naming
