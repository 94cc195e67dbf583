use Rattle.symres_table.proofs.Common.{Settling, drop}
use Rattle.symres_table.proofs.rows.settle_all.Given as goal

abbrev pub invariant-loop-symbol : goal.invariant-loop-symbol
invariant-loop-symbol l = Settling l.places l.at l.key.0 l.symbols (drop l.symbol-index l.symbols) l.fn.table.items
    l.table.items
