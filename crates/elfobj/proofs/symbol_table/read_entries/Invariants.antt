use Rattle.elfobj.proofs.Common.{symbol_entries_below, ◌≡◌}
use Rattle.elfobj.proofs.symbol_table.read_entries.Given as goal

abbrev pub invariant-loop-k : goal.invariant-loop-k
invariant-loop-k l = l.entries.items ≡ symbol_entries_below l.bytes l.start l.k
