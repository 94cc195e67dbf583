-- What is listed, with what is still to be listed, is all.
use Rattle.ldscript_statements.proofs.Common.{drop, inputs_in, shown_inputs, ◌++◌, ◌≡◌}
use Rattle.ldscript_statements.proofs.numbering.add_body_inputs.Given as goal

abbrev pub invariant-loop-statement : goal.invariant-loop-statement
invariant-loop-statement l = shown_inputs l.list.items ++ inputs_in l.place
    (drop l.statement-index l.body) ≡ shown_inputs l.initial.list.items ++ inputs_in l.place l.body
