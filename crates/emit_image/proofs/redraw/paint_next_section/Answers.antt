use Rattle.emit_image.proofs.Common.{arith, section_image, slice_index, ◌%◌, ◌+◌, ◌-◌}
use Rattle.emit_image.proofs.Painting.{one_zero, painted_after_zeros, zero_byte}
use Rattle.emit_image.proofs.redraw.paint_next_section.Goals as goal

pub returns-clause-painted : goal.returns-clause-painted
returns-clause-painted c =
    let x = c.args.section.now in
    painted_after_zeros c.args.canvas.now.bytes c.paint_fill.new.canvas.bytes c.paint_section.new.canvas.bytes
    c.args.meter.now c.paint_fill.new.meter c.paint_section.new.meter c.args.from x.offset (x.offset + x.size)
    (λ o. slice_index one_zero ((o - c.args.from) % 1)) (section_image x) c.requires.order (omega arith)
    (λ o. zero_byte ((o - c.args.from) % 1)) c.paint_fill.ensures.painted c.paint_section.ensures.painted
