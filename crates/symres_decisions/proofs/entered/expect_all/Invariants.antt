use Rattle.symres_decisions.proofs.Common.{◌≡◌}
use Rattle.symres_decisions.proofs.entered.expect_all.Given as goal

abbrev pub invariant-loop-keyed : goal.invariant-loop-keyed
invariant-loop-keyed l = l.names ≡ l.fn.names
