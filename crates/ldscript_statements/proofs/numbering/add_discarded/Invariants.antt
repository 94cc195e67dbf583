-- What is listed, with what is still to be listed, is all.
use Rattle.ldscript_statements.proofs.Common.{discarded_inputs, drop, shown_inputs, ◌++◌, ◌≡◌}
use Rattle.ldscript_statements.proofs.numbering.add_discarded.Given as goal

abbrev pub invariant-loop-statement : goal.invariant-loop-statement
invariant-loop-statement l = shown_inputs l.list.items ++ discarded_inputs
    (drop l.statement-index l.inputs) ≡ shown_inputs l.initial.list.items ++ discarded_inputs l.inputs
