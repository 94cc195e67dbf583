use Rattle.place_sections.proofs.state.LayoutCursor.has_file_bytes.Given as goal

abbrev pub ghost-any_in_file : goal.ghost-any_in_file
ghost-any_in_file g a = g.naming
