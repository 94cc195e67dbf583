use Rattle.place_sections.proofs.script.Input.place_script.Given as goal

abbrev pub ghost-place_statements : goal.ghost-place_statements
ghost-place_statements g a = g.naming

abbrev pub ghost-place_items : goal.ghost-place_items
ghost-place_items g a = g.naming
