use Rattle.relink_driver.proofs.Common.{map, section_of, spots_below, ◌≡◌}
use Rattle.relink_driver.proofs.section_location.locate_sections.Given as goal

abbrev pub invariant-loop-index : goal.invariant-loop-index
invariant-loop-index l =
    l.located.items ≡ spots_below l.indexed_layout l.place (map section_of l.object.sections) l.index
