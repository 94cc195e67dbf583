use Rattle.emit_fields.proofs.Common.{Bytes, get_or, length, raised, ℕ, ◌%◌, ◌*◌, ◌+◌, ◌<◌, ◌≡◌, ◌≤◌}
use Rattle.emit_fields.proofs.run.write_chunks.Given as goal

abbrev pub invariant-loop-k : goal.invariant-loop-k
invariant-loop-k l = record {
  written : (i : ℕ) → i < 840 * l.k → get_or l.canvas.bytes (l.at + i) 0 ≡ get_or l.pattern (i % length l.pattern) 0;
  before : (o : ℕ) → o < l.at → get_or l.canvas.bytes o 0 ≡ get_or l.initial.canvas.bytes o 0;
  after : (o : ℕ) → l.at + 840 * l.k ≤ o → get_or l.canvas.bytes o 0 ≡ get_or l.initial.canvas.bytes o 0;
  len : length l.canvas.bytes ≡ length l.initial.canvas.bytes;
  room : l.canvas.room ≡ l.initial.canvas.room;
  counted : (m : ℕ) → raised l.meter Bytes m ≡ raised l.initial.meter Bytes (840 * l.k + m);
}
