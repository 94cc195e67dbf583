-- The runs so far, with the last one, are of the statements so far.
use Rattle.gather.proofs.Common.{map, numbers_in, numbers_of, take, ◌++◌, ◌≡◌}
use Rattle.gather.specs.Matches.{number_of}
use Rattle.gather.proofs.runs.runs_of.Given as goal

abbrev pub invariant-loop-statement : goal.invariant-loop-statement
invariant-loop-statement l =
    numbers_of l.runs.items ++ numbers_in l.run ≡ map number_of (take l.statement-index l.statements)
