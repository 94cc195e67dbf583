use Rattle.symres_table.proofs.Common.{Declared, eqb, get_or, length, true, ℕ, ◌<◌, ◌≡◌, ◌≤◌}
use Rattle.symres_table.proofs.rows.start_of_own.Given as goal

abbrev pub invariant-loop-start : goal.invariant-loop-start
invariant-loop-start l = record {
  within : l.start ≤ length l.row;
  own : (k : ℕ) (d : Declared) → l.start ≤ k → k < length l.row → eqb (get_or l.row k d).entry.object.0 l.key.0 ≡ true;
}

abbrev pub decreases-loop-start : goal.decreases-loop-start
decreases-loop-start l = l.start
