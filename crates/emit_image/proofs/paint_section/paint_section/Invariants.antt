use Rattle.emit_image.proofs.Common.{IsPainted, IsReached, IsReady, file_offset_of, section_image, ◌≡◌}
use Rattle.emit_image.proofs.paint_section.paint_section.Given as goal

abbrev pub invariant-loop-k : goal.invariant-loop-k
invariant-loop-k l = record {
  reached : IsReached l.section l.cursor.pieces l.cursor.data_commands l.cursor.at;
  pieces : l.cursor.pieces ≡ l._k;
  ready : IsReady l.limit l.canvas;
  painted : IsPainted l.fn.canvas.bytes l.canvas.bytes l.fn.meter l.meter (file_offset_of l.section l.section.start)
      (file_offset_of l.section l.cursor.at) (section_image l.section);
}
