use Rattle.place_sections.proofs.state.LayoutCursor.given.Given as goal

abbrev pub ghost-optional : goal.ghost-optional
ghost-optional g a = g.naming

abbrev pub ghost-loaded_at : goal.ghost-loaded_at
ghost-loaded_at g a = g.naming
