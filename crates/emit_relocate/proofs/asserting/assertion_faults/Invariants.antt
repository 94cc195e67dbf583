use Rattle.emit_relocate.proofs.Common.{asserts, failures, faults_in, meaning_of, take, ◌≡◌}
use Rattle.emit_relocate.proofs.asserting.assertion_faults.Given as goal

-- the ASSERTs before this one are seen to
abbrev pub invariant-loop-number : goal.invariant-loop-number
invariant-loop-number l =
    faults_in l.project l.faults.items ≡ failures (meaning_of l.scope) (take l.number (asserts l.project.script))
