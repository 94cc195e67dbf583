use Rattle.symres_table.proofs.Common.{Appended, take}
use Rattle.symres_table.proofs.rows.append_all.Given as goal

abbrev pub invariant-loop-symbol : goal.invariant-loop-symbol
invariant-loop-symbol l = Appended l.key.0 (take l.symbol-index l.symbols) l.fn.table.items l.table.items
