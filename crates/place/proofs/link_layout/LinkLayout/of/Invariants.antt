use Rattle.place.proofs.link_layout.LinkLayout.of.Given as goal

abbrev pub ghost-place_rows : goal.ghost-place_rows
ghost-place_rows a = a.project.now
