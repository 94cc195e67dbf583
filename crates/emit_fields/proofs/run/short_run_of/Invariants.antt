use Rattle.emit_fields.proofs.Common.{get_or, length, ℕ, ◌%◌, ◌<◌, ◌≡◌}
use Rattle.emit_fields.proofs.run.short_run_of.Given as goal

abbrev pub invariant-loop-i : goal.invariant-loop-i
invariant-loop-i l = record {
  len : length l.short ≡ 32;
  filled : (j : ℕ) → j < l.i
      → get_or l.short j 0 ≡ get_or l.pattern (j % length l.pattern) 0;
}
