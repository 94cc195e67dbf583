use Rattle.relink_driver.proofs.Common.{map, section_outline}
use Rattle.relink_driver.proofs.Outlines.{AreSame}
use Rattle.relink_driver.proofs.outline.same_sections.Given as goal

abbrev pub invariant-loop-number : goal.invariant-loop-number
invariant-loop-number l = AreSame (map section_outline l.a.sections) (map section_outline l.b.sections) l.number
