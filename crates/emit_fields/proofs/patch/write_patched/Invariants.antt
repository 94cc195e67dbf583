use Rattle.emit_fields.proofs.Common.{AreInOrder, Bytes, drop, get_or, length, patched_byte, raised, ℕ, ◌+◌, ◌<◌, ◌≡◌}
use Rattle.emit_fields.proofs.Common.{◌≤◌}
use Rattle.emit_fields.proofs.patch.write_patched.Given as goal

abbrev pub invariant-loop-patch : goal.invariant-loop-patch
invariant-loop-patch l = record {
  order : AreInOrder l.done (length l.bytes) (drop l.patch-index l.patches);
  rest : (i : ℕ) → l.done ≤ i → patched_byte l.bytes l.patches i ≡ patched_byte l.bytes
      (drop l.patch-index l.patches) i;
  written : (i : ℕ) → i < l.done → get_or l.canvas.bytes (l.at + i) 0 ≡ patched_byte l.bytes l.patches i;
  before : (o : ℕ) → o < l.at → get_or l.canvas.bytes o 0 ≡ get_or l.fn.canvas.bytes o 0;
  after : (o : ℕ) → l.at + length l.bytes ≤ o → get_or l.canvas.bytes o 0 ≡ get_or l.fn.canvas.bytes o 0;
  len : length l.canvas.bytes ≡ length l.fn.canvas.bytes;
  room : l.canvas.room ≡ l.fn.canvas.room;
  within : l.done ≤ length l.bytes;
  counted : (n : ℕ) → raised l.meter Bytes n ≡ raised l.fn.meter Bytes (l.done + n);
}
