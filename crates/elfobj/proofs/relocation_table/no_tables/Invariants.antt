use Rattle.elfobj.proofs.Common.{None, replicate, ◌≡◌}
use Rattle.elfobj.proofs.relocation_table.no_tables.Given as goal

abbrev pub invariant-loop : goal.invariant-loop
invariant-loop l = l.tables.items ≡ replicate l.counter None
