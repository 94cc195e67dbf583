use Rattle.emit_image.proofs.Common.{AreSectionsReached, IsPainted, IsReady, drawing_spot, length}
use Rattle.emit_image.proofs.redraw.paint_sections.Given as goal

abbrev pub invariant-loop-x : goal.invariant-loop-x
invariant-loop-x l = record {
  reached : AreSectionsReached l.drawing l.x-index l.at;
  ready : IsReady l.limit l.canvas;
  painted : IsPainted l.fn.canvas.bytes l.canvas.bytes l.fn.meter l.meter (length l.drawing.headers.now) l.at
      (drawing_spot l.drawing);
}
