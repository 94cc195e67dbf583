use Rattle.emit.proofs.Common.{List, None, Some, ap, faults_in, value_of, ◌∙◌}
use Rattle.ldmodel.specs.declared.fault.Fault.{Fault}
use Rattle.emit.proofs.Faulting.{faults_in_front}
use Rattle.emit.proofs.relocated.with_entry_fault.Goals as goal

pub returns-in-None : goal.returns-in-None
returns-in-None c = λ p. faults_in_front p (value_of c.args.value) None c.args.faults.items c.in-None.ensures

pub returns-in_ok-insert-in-Some : goal.returns-in_ok-insert-in-Some
returns-in_ok-insert-in-Some c =
    λ p.
    ap (λ (fs : List Fault). faults_in p fs) c.in_ok-insert-in-Some.ensures.items
    ∙ faults_in_front p (value_of c.args.value) (Some c.in-Some.fault) c.args.faults.items c.in-Some.ensures
