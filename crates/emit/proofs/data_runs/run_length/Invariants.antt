-- Those so far stand in the output section.
use Rattle.emit.proofs.Common.{drop, run_length, ◌+◌, ◌≡◌}
use Rattle.emit.proofs.data_runs.run_length.Given as goal

abbrev pub invariant-loop-k : goal.invariant-loop-k
invariant-loop-k l = l.k + run_length l.section (drop l.k l.commands) ≡ run_length l.section l.commands
