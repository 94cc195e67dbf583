use Rattle.emit_image.proofs.Common.{arith, part_end, part_image, slice_index, ◌%◌, ◌-◌}
use Rattle.emit_image.proofs.Painting.{one_zero, painted_after_zeros, zero_byte}
use Rattle.emit_image.proofs.redraw.paint_part.Goals as goal

pub returns-clause-painted : goal.returns-clause-painted
returns-clause-painted c =
    let part = c.args.part.now in
    painted_after_zeros c.args.canvas.now.bytes c.paint_fill.new.canvas.bytes c.paint_bytes.new.canvas.bytes
    c.args.meter.now c.paint_fill.new.meter c.paint_bytes.new.meter c.args.from part.offset (part_end part)
    (λ o. slice_index one_zero ((o - c.args.from) % 1)) (part_image part) c.requires.order (omega arith)
    (λ o. zero_byte ((o - c.args.from) % 1)) c.paint_fill.ensures.painted c.paint_bytes.ensures.painted
