use Rattle.elfobj.proofs.Common.{get_or, length, ℕ, ◌<◌, ◌≡◌}
use Rattle.elfobj.proofs.entry_test.none_passed.Given as goal

abbrev pub invariant-loop-entry : goal.invariant-loop-entry
invariant-loop-entry l = record {
  long : length l.past.items ≡ l.entry;
  own : (k : ℕ) → k < l.entry → get_or l.past.items k 0 ≡ k;
}
