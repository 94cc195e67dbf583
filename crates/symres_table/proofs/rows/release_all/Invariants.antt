use Rattle.symres_table.proofs.Common.{Declared, Holds, KeepsRoom, List, Vec, drop}
use Rattle.std.proofs.Common.{Global}
use Rattle.symres_table.proofs.rows.release_all.Given as goal

abbrev pub invariant-loop-symbol : goal.invariant-loop-symbol
invariant-loop-symbol l = record {
  held : (was : List (Vec Declared Global)) → Holds l.symbols was l.fn.table.items
      → Holds (drop l.symbol-index l.symbols) was l.table.items;
  room : KeepsRoom l.fn.table.items l.table.items;
}
