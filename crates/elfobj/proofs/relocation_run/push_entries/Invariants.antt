use Rattle.elfobj.proofs.Common.{map, relocation_entries_below, relocation_of, ◌++◌, ◌≡◌}
use Rattle.elfobj.proofs.relocation_run.push_entries.Given as goal

abbrev pub invariant-loop-k : goal.invariant-loop-k
invariant-loop-k l = l.all.items ≡ l.initial.all.items ++ map relocation_of
    (relocation_entries_below l.bytes l.start l.k)
