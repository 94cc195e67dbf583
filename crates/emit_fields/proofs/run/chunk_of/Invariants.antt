use Rattle.emit_fields.proofs.Common.{get_or, length, ℕ, ◌%◌, ◌<◌, ◌≡◌}
use Rattle.emit_fields.proofs.run.chunk_of.Given as goal

abbrev pub invariant-loop-i : goal.invariant-loop-i
invariant-loop-i l = record {
  len : length l.chunk ≡ 840;
  filled : (j : ℕ) → j < l.i
      → get_or l.chunk j 0 ≡ get_or l.pattern (j % length l.pattern) 0;
}
