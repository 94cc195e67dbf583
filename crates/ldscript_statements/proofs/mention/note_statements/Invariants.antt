-- What is listed, with what is still to be listed, is all.
use Rattle.ldscript_statements.proofs.Common.{drop, mentions, shown, ◌++◌, ◌≡◌}
use Rattle.ldscript_statements.proofs.mention.note_statements.Given as goal

abbrev pub invariant-loop-statement : goal.invariant-loop-statement
invariant-loop-statement l = shown l.list.items ++ mentions
    (drop l.statement-index l.statements) ≡ shown l.initial.list.items ++ mentions l.statements
