use Rattle.emit_image.proofs.Common.{IsPainted, IsReached, IsReady, file_offset_of, section_image, ◌≡◌, ◌≤◌}
use Rattle.emit_image.proofs.paint_section.paint_some_data.Given as goal

abbrev pub invariant-loop-k : goal.invariant-loop-k
invariant-loop-k l = record {
  reached : IsReached l.x l.now.pieces l.now.data_commands l.now.at;
  pieces : l.now.pieces ≡ l.fn.cursor.pieces;
  data_commands : l.now.data_commands ≡ l._k;
  ready : IsReady l.limit l.canvas;
  painted : IsPainted l.fn.canvas.bytes l.canvas.bytes l.fn.meter l.meter (file_offset_of l.x l.fn.cursor.at)
      (file_offset_of l.x l.now.at) (section_image l.x);
  up : l.fn.cursor.at ≤ l.now.at;
}
