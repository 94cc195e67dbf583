use Rattle.relink_driver.proofs.Common.{previous_of, shown_inputs}
use Rattle.relink_driver.proofs.CleanObjectValues.{MarksSoFar}
use Rattle.relink_driver.proofs.dirty.dirty_objects.Given as goal

abbrev pub invariant-loop-place : goal.invariant-loop-place
invariant-loop-place l =
    MarksSoFar (previous_of l.previous) l.symbols (shown_inputs l.inputs) l.place l.dirty.items
