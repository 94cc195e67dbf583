use Rattle.emit_fields.proofs.canvas.Canvas.resize_reserved.Goals as goal
use Rattle.emit_fields.proofs.Zeros.{each_is}

-- src/canvas.rt:124:9
pub add_zero_blocks-requires-clause-zeros : goal.add_zero_blocks-requires-clause-zeros
add_zero_blocks-requires-clause-zeros c = λ i. each_is 256 0 i
