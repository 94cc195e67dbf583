-- What is listed, with what is still to be listed, is all.
use Rattle.ldscript_statements.proofs.Common.{directives_in, drop, shown_directives, ◌++◌, ◌≡◌}
use Rattle.ldscript_statements.proofs.numbering.add_body_directives.Given as goal

abbrev pub invariant-loop-statement : goal.invariant-loop-statement
invariant-loop-statement l = shown_directives l.list.items ++ directives_in
    (drop l.statement-index l.body) ≡ shown_directives l.initial.list.items ++ directives_in l.body
