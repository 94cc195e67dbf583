-- What is listed, with what is still to be listed, is all.
use Rattle.ldscript_statements.proofs.Common.{all_directives, drop, shown_directives, ◌++◌, ◌≡◌}
use Rattle.ldscript_statements.proofs.numbering.all_directives.Given as goal

abbrev pub invariant-loop-statement : goal.invariant-loop-statement
invariant-loop-statement l = shown_directives l.list.items ++ all_directives
    (drop l.statement-index l.statements) ≡ shown_directives l.initial.list.items ++ all_directives l.statements
