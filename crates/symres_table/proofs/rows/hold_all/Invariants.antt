use Rattle.symres_table.proofs.Common.{Holds, take}
use Rattle.symres_table.proofs.rows.hold_all.Given as goal

abbrev pub invariant-loop-at : goal.invariant-loop-at
invariant-loop-at l = Holds (take l.at l.symbols) l.fn.table.items l.table.items
