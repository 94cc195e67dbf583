use Rattle.relink_driver.proofs.Common.{map, section_targets}
use Rattle.relink_driver.proofs.Outlines.{AreSame}
use Rattle.relink_driver.proofs.outline.same_targets.Given as goal

abbrev pub invariant-loop-number : goal.invariant-loop-number
invariant-loop-number l = AreSame (map section_targets l.a.sections) (map section_targets l.b.sections) l.number
