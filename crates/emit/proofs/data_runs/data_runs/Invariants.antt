-- The output sections so far have theirs, and the others are those of the rest.
use Rattle.emit.proofs.Common.{map}
use Rattle.emit.proofs.Running.{Runs}
use Rattle.emit.proofs.data_runs.data_runs.Given as goal

abbrev pub invariant-loop-section : goal.invariant-loop-section
invariant-loop-section l = Runs l.commands l.sections l.section l.at (map (λ run. run.now) l.runs.items)
