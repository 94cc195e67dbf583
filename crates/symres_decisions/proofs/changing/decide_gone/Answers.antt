use Rattle.symres_decisions.proofs.Common.{AreOpen, ObjectAt, Option, declared_by, subst}
use Rattle.symres_decisions.proofs.Changed.{decided_some}
use Rattle.symres_decisions.proofs.changing.decide_gone.Goals as goal

pub returns-in-Some-clause-decided : goal.returns-in-Some-clause-decided
returns-in-Some-clause-decided c = λ seen sound done free.
    decided_some c.args.script.now c.args.names.now c.args.out c.in-Some.at c.args.cases.now c.decide_names.new.cases
    c.args.meter.now c.decide_names.new.meter seen c.in-Some.is (c.decide_names.ensures.decided seen sound done
    (subst (λ (o : Option ObjectAt). AreOpen c.args.names.now.names c.args.cases.now (declared_by o) seen) c.in-Some.is
    free))
