use Rattle.emit_fields.proofs.Common.{cases_lt, inl, inr, length, mul-le-mul_left, rules, slice_index_or, vec_capacity}
use Rattle.emit_fields.proofs.Common.{vec_len, ℕ, ◌*◌, ◌+◌, ◌-◌, ◌<◌, ◌∙◌, ◌≡◌, ◌≤◌, ◌⊎◌}
use Rattle.emit_fields.proofs.canvas.add_zero_blocks.Goals as goal

-- src/canvas.rt:48:5
pub loop-preserved : goal.loop-preserved
loop-preserved c = record {
  len = search rules;
  within = search rules;
  kept = search rules;
  zeros = λ offset past. zero_at offset past (cases_lt offset (vec_len c.loop.bytes));
  room = search rules;
} where
  zero_at : (offset : ℕ) → vec_len c.args.bytes.now ≤ offset
      → (offset < vec_len c.loop.bytes) ⊎ (vec_len c.loop.bytes ≤ offset)
      → slice_index_or c.extend_from_slice.new.self.items offset 0 ≡ 0
  zero_at offset past (inl below) = search rules
  zero_at offset past (inr after) = c.extend_from_slice.ensures.by_index.1 offset 0 (search rules) after
      ∙ c.requires.zeros (offset - vec_len c.loop.bytes)

-- src/canvas.rt:49:9
pub unwrap-requires : goal.unwrap-requires
unwrap-requires c = c.extend_from_slice.ensures.succeeds within where
  next : length c.args.zeros.now * (c.loop.counter + 1) ≤ length c.args.zeros.now * c.args.count
  next = mul-le-mul_left (length c.args.zeros.now) (search rules)

  within : vec_len c.loop.bytes + length c.args.zeros.now ≤ vec_capacity c.loop.bytes
  within = search (next, rules)
