use Rattle.elfobj.proofs.Common.{HavePassed, false, is_refused_for, length, relocation_entry_at, ℕ, ◌*◌, ◌+◌, ◌-◌, ◌<◌}
use Rattle.elfobj.proofs.Common.{◌≡◌, ◌≤◌}
use Rattle.elfobj.proofs.entry_test.is_table_refused.Given as goal

abbrev pub invariant-loop-at : goal.invariant-loop-at
invariant-loop-at l = record {
  begun : l.first ≤ l.at;
  long : length l.past ≡ length l.initial.past;
  passed : HavePassed l.fault l.bytes l.symbols l.table.section l.base l.past;
  none : (j : ℕ) → l.first ≤ j → j < l.at
      → is_refused_for l.fault l.symbols l.table.section (relocation_entry_at l.bytes (l.base + 24 * j)) ≡ false;
}

abbrev pub decreases-loop-at : goal.decreases-loop-at
decreases-loop-at l = l.end - l.at
