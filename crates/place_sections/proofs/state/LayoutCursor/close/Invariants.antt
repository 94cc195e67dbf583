use Rattle.place_sections.proofs.state.LayoutCursor.close.Given as goal

abbrev pub ghost-has_file_bytes : goal.ghost-has_file_bytes
ghost-has_file_bytes g a = g.naming

abbrev pub ghost-is_writable : goal.ghost-is_writable
ghost-is_writable g a = g.naming

abbrev pub ghost-any_with_flag : goal.ghost-any_with_flag
ghost-any_with_flag g a = g.naming
