use Rattle.place_sections.proofs.script.Input.place_statement.Given as goal

abbrev pub ghost-declare_all : goal.ghost-declare_all
ghost-declare_all g a = g.naming

abbrev pub ghost-directive : goal.ghost-directive
ghost-directive g a = g.naming
