use Rattle.ldi_deferred.proofs.Common.{AreWithin, IsOutside, length, slice_get, ℕ, ◌-◌, ◌<◌, ◌≡◌, ◌≤◌}
use Rattle.ldi_deferred.proofs.changed.changed_ranges.Given as goal

abbrev pub invariant-loop-at : goal.invariant-loop-at
invariant-loop-at l = record {
  within : l.at ≤ length l.image;
  inside : AreWithin (length l.image) l.ranges.items;
  same : (k : ℕ) → k < l.at → IsOutside k l.ranges.items → slice_get l.sent k ≡ slice_get l.image k;
}

abbrev pub decreases-loop-at : goal.decreases-loop-at
decreases-loop-at l = length l.image - l.at
