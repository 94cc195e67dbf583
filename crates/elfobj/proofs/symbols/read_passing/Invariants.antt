use Rattle.elfobj.proofs.Common.{AreNamed, false, file_bytes, nat_lt, symbol_entries_below, symbol_entry_at}
use Rattle.elfobj.proofs.Common.{symbols_from, ℕ, ◌*◌, ◌+◌, ◌<◌, ◌≡◌, ◌≤◌}
use Rattle.elfobj_file.specs.Tables.{is_local_entry, is_wrong_symbol}
use Rattle.elfobj.proofs.symbols.read_passing.Given as goal

abbrev pub invariant-loop-number : goal.invariant-loop-number
invariant-loop-number l = record {
  low : 1 ≤ l.number;
  named : AreNamed l.bytes (symbols_from (file_bytes l.bytes l.strings) (symbol_entries_below l.bytes l.start l.number))
      l.symbols.symbols.items l.symbols.names.items;
  sides : (j : ℕ) → 1 ≤ j → j < l.number → is_local_entry (symbol_entry_at l.bytes (l.start + 24 * j))
      ≡ nat_lt j l.first;
  right : (j : ℕ) → 1 ≤ j → j < l.number
      → is_wrong_symbol l.sections (file_bytes l.bytes l.strings) (symbol_entry_at l.bytes (l.start + 24 * j)) ≡ false;
}
