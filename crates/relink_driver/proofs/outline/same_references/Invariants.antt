use Rattle.relink_driver.proofs.Outlines.{AreSame, symbols_named}
use Rattle.relink_driver.proofs.outline.same_references.Given as goal

abbrev pub invariant-loop-number : goal.invariant-loop-number
invariant-loop-number l = AreSame (symbols_named l.a) (symbols_named l.b) l.number
