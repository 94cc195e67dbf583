use Rattle.place_sections.proofs.state.LayoutCursor.place_section.Given as goal

abbrev pub ghost-head : goal.ghost-head
ghost-head g a = g.naming

abbrev pub ghost-body : goal.ghost-body
ghost-body g a = g.naming

abbrev pub ghost-end : goal.ghost-end
ghost-end g a = g.naming
