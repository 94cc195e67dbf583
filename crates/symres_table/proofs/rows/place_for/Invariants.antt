use Rattle.symres_table.proofs.Common.{Declared, before, false, get_or, length, ℕ, ◌<◌, ◌≡◌, ◌≤◌}
use Rattle.symres_table.proofs.rows.place_for.Given as goal

abbrev pub invariant-loop-number : goal.invariant-loop-number
invariant-loop-number l = record {
  within : l.number ≤ length l.row;
  behind : (k : ℕ) (d : Declared) → l.number ≤ k → k < length l.row → before l.places l.at l.key.0 (get_or l.row k d)
      ≡ false;
}

abbrev pub decreases-loop-number : goal.decreases-loop-number
decreases-loop-number l = l.number
