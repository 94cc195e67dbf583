use Rattle.ldi_deferred.proofs.Common.{length, slice_get, ℕ, ◌-◌, ◌<◌, ◌≡◌, ◌≤◌}
use Rattle.ldi_deferred.proofs.changed.skip_same.Given as goal

abbrev pub invariant-loop-at : goal.invariant-loop-at
invariant-loop-at l = record {
  low : l.fn.from ≤ l.at;
  within : l.at ≤ length l.image;
  same : (k : ℕ) → l.fn.from ≤ k → k < l.at → slice_get l.sent k ≡ slice_get l.image k;
}

abbrev pub decreases-loop-at : goal.decreases-loop-at
decreases-loop-at l = length l.image - l.at
