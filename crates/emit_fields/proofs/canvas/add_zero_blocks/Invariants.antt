use Rattle.emit_fields.proofs.Common.{length, slice_index_or, vec_capacity, vec_len, ℕ, ◌*◌, ◌+◌, ◌<◌, ◌≡◌, ◌≤◌}
use Rattle.emit_fields.proofs.canvas.add_zero_blocks.Given as goal

abbrev pub invariant-loop : goal.invariant-loop
invariant-loop l = record {
  len : vec_len l.bytes ≡ vec_len l.fn.bytes + length l.zeros * l.counter;
  within : l.counter ≤ l.count;
  kept : (offset : ℕ) → offset < vec_len l.fn.bytes
      → slice_index_or l.bytes.items offset 0 ≡ slice_index_or l.fn.bytes.items offset 0;
  zeros : (offset : ℕ) → vec_len l.fn.bytes ≤ offset → slice_index_or l.bytes.items offset 0 ≡ 0;
  room : vec_capacity l.fn.bytes ≤ vec_capacity l.bytes;
}
