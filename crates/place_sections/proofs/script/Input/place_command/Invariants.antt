use Rattle.place_sections.proofs.script.Input.place_command.Given as goal

abbrev pub ghost-move_freely : goal.ghost-move_freely
ghost-move_freely g a = g.naming

abbrev pub ghost-directive : goal.ghost-directive
ghost-directive g a = g.naming

abbrev pub ghost-place_section : goal.ghost-place_section
ghost-place_section g a = g.naming
