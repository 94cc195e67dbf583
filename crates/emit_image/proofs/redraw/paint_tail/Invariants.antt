use Rattle.emit_image.proofs.Common.{ArePartsReached, IsPainted, IsReady, drawing_spot}
use Rattle.emit_image.proofs.redraw.paint_tail.Given as goal

abbrev pub invariant-loop-part : goal.invariant-loop-part
invariant-loop-part l = record {
  reached : ArePartsReached l.drawing l.part-index l.at;
  ready : IsReady l.limit l.canvas;
  painted : IsPainted l.fn.canvas.bytes l.canvas.bytes l.fn.meter l.meter l.from l.at (drawing_spot l.drawing);
}
