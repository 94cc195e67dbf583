use Rattle.ldi_deferred.proofs.Common.{length, ◌-◌, ◌<◌, ◌≤◌}
use Rattle.ldi_deferred.proofs.changed.skip_changed.Given as goal

abbrev pub invariant-loop-at : goal.invariant-loop-at
invariant-loop-at l = record { low : l.fn.from < l.at; within : l.at ≤ length l.image }

abbrev pub decreases-loop-at : goal.decreases-loop-at
decreases-loop-at l = length l.image - l.at
