use Rattle.symres_table.proofs.Common.{PlacedKey, get_or, length, ℕ, ◌-◌, ◌<◌, ◌≤◌}
use Rattle.symres_table.proofs.places.count_below.Given as goal

abbrev pub invariant-loop-low : goal.invariant-loop-low
invariant-loop-low l = record {
  ordered : l.low ≤ l.high;
  within : l.high ≤ length l.places;
  below : (k : ℕ) (d : PlacedKey) → k < l.low → (get_or l.places k d).key.0 < l.key.0;
  rest : (k : ℕ) (d : PlacedKey) → l.high ≤ k → k < length l.places → l.key.0 ≤ (get_or l.places k d).key.0;
}

abbrev pub decreases-loop-low : goal.decreases-loop-low
decreases-loop-low l = l.high - l.low
