use Rattle.place_sections.proofs.state.LayoutCursor.head.Given as goal

abbrev pub ghost-given : goal.ghost-given
ghost-given g a = g.naming

abbrev pub ghost-widest_of : goal.ghost-widest_of
ghost-widest_of g a = g.naming

abbrev pub ghost-start : goal.ghost-start
ghost-start g a = g.naming

abbrev pub ghost-load : goal.ghost-load
ghost-load g a = g.naming
