use Rattle.place_sections.proofs.state.LayoutCursor.move_freely.Given as goal

abbrev pub ghost-formula : goal.ghost-formula
ghost-formula g a = g.naming
