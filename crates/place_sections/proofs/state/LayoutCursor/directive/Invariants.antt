use Rattle.place_sections.proofs.state.LayoutCursor.directive.Given as goal

abbrev pub ghost-assign : goal.ghost-assign
ghost-assign g a = g.naming
