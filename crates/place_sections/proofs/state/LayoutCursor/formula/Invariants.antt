use Rattle.place_sections.proofs.state.LayoutCursor.formula.Given as goal

abbrev pub ghost-number : goal.ghost-number
ghost-number g a = g.naming
