use Rattle.relink_driver.proofs.Outlines.{AreSame, symbols_again}
use Rattle.relink_driver.proofs.outline.same_symbols.Given as goal

abbrev pub invariant-loop-number : goal.invariant-loop-number
invariant-loop-number l = AreSame (symbols_again l.a.symbols) (symbols_again l.b.symbols) l.number
