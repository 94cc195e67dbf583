use Rattle.place_sections.proofs.state.LayoutCursor.load.Given as goal

abbrev pub ghost-unstated : goal.ghost-unstated
ghost-unstated g a = g.naming
