use Rattle.elfobj.proofs.Common.{All, Any, Relocation, false, field_end, is_refused_for, list_any, map}
use Rattle.elfobj.proofs.Common.{relocation_entries_below, relocation_of, share_bytes, ◌++◌, ◌≡◌, ◌≤◌}
use Rattle.elfobj.proofs.ordered_table.push_ordered.Given as goal

abbrev pub invariant-loop-k : goal.invariant-loop-k
invariant-loop-k l = record {
  read : l.all.items ≡ l.initial.all.items ++ map relocation_of (relocation_entries_below l.bytes l.table.start l.k);
  passes : list_any (is_refused_for Any l.symbols l.table.section)
      (relocation_entries_below l.bytes l.table.start l.k) ≡ false;
  ends : All (λ (r : Relocation). field_end r ≤ l.end)
      (map relocation_of (relocation_entries_below l.bytes l.table.start l.k));
  apart : share_bytes (map relocation_of (relocation_entries_below l.bytes l.table.start l.k)) ≡ false;
}
