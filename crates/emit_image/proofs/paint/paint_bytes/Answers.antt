use Rattle.emit_image.proofs.Common.{Bytes, ap, arith, false, length, raised, refl, slice_index, ℕ, ◌+◌, ◌-◌, ◌∙◌, ◌≡◌}
use Rattle.emit_image.proofs.Painting.{painted_own}
use Rattle.emit_image.proofs.paint.paint_bytes.Goals as goal

pub returns-clause-painted : goal.returns-clause-painted
returns-clause-painted c =
    let from : ℕ = c.args.from in
    let count : ℕ = length c.args.bytes.now in
    let size : count ≡ from + count - from = omega arith in
    let r = c.write.ensures in
    painted_own c.args.canvas.now.bytes c.grow_to.new.canvas.bytes c.write.new.self.bytes c.args.meter.now
    c.write.new.meter from (from + count) (λ i. slice_index c.args.bytes.now i) false (omega arith) refl
    c.grow_to.ensures.same c.grow_to.ensures.reached (λ i h. r.written i (omega (arith, h))) r.before r.after r.len
    (r.counted ∙ ap (λ (n : ℕ). raised c.args.meter.now Bytes n) size)
