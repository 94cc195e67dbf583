use Rattle.place_sections.proofs.state.LayoutCursor.is_writable.Given as goal

abbrev pub ghost-any_with_flag : goal.ghost-any_with_flag
ghost-any_with_flag g a = g.naming
