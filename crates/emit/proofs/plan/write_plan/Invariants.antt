use Rattle.emit.proofs.Common.{AreWritten, Bytes, count_of, raised, sum_by, take, written_all, ◌≡◌}
use Rattle.emit.proofs.plan.write_plan.Given as goal

abbrev pub invariant-loop-section : goal.invariant-loop-section
invariant-loop-section l = record {
  over : AreWritten (written_all (take l.section-index l.sections)) l.fn.canvas.bytes l.canvas.bytes;
  room : l.canvas.room ≡ l.fn.canvas.room;
  counted : l.meter ≡ raised l.fn.meter Bytes (sum_by count_of (written_all (take l.section-index l.sections)));
}
