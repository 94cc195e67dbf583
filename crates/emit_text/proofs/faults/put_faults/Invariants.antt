-- With the lines still to come, the text is the whole one.
use Rattle.emit_text.proofs.Common.{drop, fault_text, faults_in, ◌++◌, ◌≡◌}
use Rattle.emit_text.proofs.faults.put_faults.Given as goal

abbrev pub invariant-loop-fault : goal.invariant-loop-fault
invariant-loop-fault l =
    l.text.items ++ fault_text (faults_in l.project (drop l.fault-index l.faults))
    ≡ l.initial.text.items ++ fault_text (faults_in l.project l.faults)
