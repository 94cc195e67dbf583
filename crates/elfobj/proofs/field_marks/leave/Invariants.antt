use Rattle.elfobj.proofs.Common.{IsWindow, length, ◌≡◌, ◌≤◌}
use Rattle.elfobj.proofs.field_marks.leave.Given as goal

abbrev pub invariant-loop-at : goal.invariant-loop-at
invariant-loop-at l = record {
  window : IsWindow l.all l.at l.until l.marks;
  long : length l.marks ≡ length l.initial.marks;
  order : l.at ≤ l.start;
}
