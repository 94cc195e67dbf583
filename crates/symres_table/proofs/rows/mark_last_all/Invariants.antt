use Rattle.symres_table.proofs.Common.{AllMarkedLast, take}
use Rattle.symres_table.proofs.rows.mark_last_all.Given as goal

abbrev pub invariant-loop-symbol : goal.invariant-loop-symbol
invariant-loop-symbol l = AllMarkedLast l.key.0 (take l.symbol-index l.symbols) l.fn.table.items l.table.items
