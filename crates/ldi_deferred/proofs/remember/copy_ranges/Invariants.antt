use Rattle.ldi_deferred.proofs.Common.{IsOutside, drop, length, slice_get, ℕ, ◌<◌, ◌≡◌}
use Rattle.ldi_deferred.proofs.remember.copy_ranges.Given as goal

abbrev pub invariant-loop-range : goal.invariant-loop-range
invariant-loop-range l = record {
  long : length l.sent ≡ length l.fn.sent;
  same : (at : ℕ) → at < length l.fn.sent → IsOutside at (drop l.range-index l.ranges)
      → slice_get l.sent at ≡ slice_get l.image at;
}
