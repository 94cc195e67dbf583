use Rattle.place_sections.proofs.state.LayoutCursor.end.Given as goal

abbrev pub ghost-close : goal.ghost-close
ghost-close g a = g.naming

abbrev pub ghost-load_end : goal.ghost-load_end
ghost-load_end g a = g.naming
