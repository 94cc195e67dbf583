use Rattle.symres_decisions.proofs.Deciding.{DecidedTo}
use Rattle.symres_decisions.proofs.all.decide_all.Given as goal

abbrev pub invariant-loop-number : goal.invariant-loop-number
invariant-loop-number l = DecidedTo l.script l.names l.fn.cases l.cases l.fn.meter l.meter l.number
