use Rattle.place_sections.proofs.place.lay_out.Given as goal

abbrev pub ghost-place_script : goal.ghost-place_script
ghost-place_script g a = g.naming

abbrev pub ghost-whole : goal.ghost-whole
ghost-whole g a = g.naming
