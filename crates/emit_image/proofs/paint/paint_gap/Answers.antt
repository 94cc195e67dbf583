use Rattle.emit_image.proofs.Common.{arith, false, length, refl, slice_index, ◌%◌}
use Rattle.emit_image.proofs.Painting.{painted_own}
use Rattle.emit_image.proofs.paint.paint_gap.Goals as goal

pub returns-clause-painted : goal.returns-clause-painted
returns-clause-painted c =
    let pattern = c.args.pattern.now in
    let order = c.requires.order in
    let g = c.grow_to.ensures in
    let r = c.write_fill.ensures in
    painted_own c.args.canvas.now.bytes c.grow_to.new.canvas.bytes c.write_fill.new.canvas.bytes c.args.meter.now
    c.write_fill.new.meter c.args.from c.args.end (λ i. slice_index pattern (i % length pattern)) false order refl
    g.same (omega (arith, g.reached, c.requires.reach)) r.written r.before
    (λ o h. r.after o (omega (arith, h, order))) r.len r.counted
