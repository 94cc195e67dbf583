use Rattle.elfobj.proofs.Common.{false, get_or, ℕ, ◌<◌, ◌≡◌, ◌≤◌}
use Rattle.elfobj.proofs.field_marks.is_marked.Given as goal

abbrev pub invariant-loop-at : goal.invariant-loop-at
invariant-loop-at l = record {
  begun : l.start ≤ l.at;
  free : (b : ℕ) → l.start ≤ b → b < l.at → get_or l.marks b false ≡ false;
}
