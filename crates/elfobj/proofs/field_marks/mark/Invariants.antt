use Rattle.elfobj.proofs.Common.{false, get_or, length, ℕ, ◌<◌, ◌≡◌, ◌≤◌, ◌⊎◌}
use Rattle.elfobj.proofs.field_marks.mark.Given as goal

abbrev pub invariant-loop-at : goal.invariant-loop-at
invariant-loop-at l = record {
  begun : l.start ≤ l.at;
  long : length l.marks ≡ length l.initial.marks;
  inside : (b : ℕ) → l.start ≤ b → b < l.at → get_or l.marks b false ≡ l.is_taken;
  outside : (b : ℕ) → (b < l.start) ⊎ (l.at ≤ b) → get_or l.marks b false ≡ get_or l.initial.marks b false;
}
