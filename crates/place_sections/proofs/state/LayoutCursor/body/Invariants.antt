use Rattle.place_sections.proofs.state.LayoutCursor.body.Given as goal

abbrev pub ghost-place_body : goal.ghost-place_body
ghost-place_body g a = g.naming
