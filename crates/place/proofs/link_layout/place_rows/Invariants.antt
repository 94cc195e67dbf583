use Rattle.place.proofs.Common.{name_of_section, object_name}
use Rattle.place.proofs.link_layout.place_rows.Given as goal

abbrev pub ghost-place : goal.ghost-place
ghost-place g a = record { object = object_name g.lent; section = name_of_section g.lent }
