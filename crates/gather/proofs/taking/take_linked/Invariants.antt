-- Some of the runs are taken.
use Rattle.gather.proofs.Common.{drop, gathered_by}
use Rattle.ldscript.specs.statements.Numbered.{shown_inputs}
use Rattle.gather.proofs.AllTaken.{TakesPart}
use Rattle.gather.proofs.taking.take_linked.Given as goal

abbrev pub invariant-loop-run : goal.invariant-loop-run
invariant-loop-run l =
    TakesPart (shown_inputs l.statements) l.orphans l.initial.taken l.taken
    (gathered_by l.place l.rest (drop l.run-index l.runs)) (gathered_by l.place l.linked l.runs)
