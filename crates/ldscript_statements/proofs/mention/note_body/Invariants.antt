-- What is listed, with what is still to be listed, is all.
use Rattle.ldscript_statements.proofs.Common.{drop, in_body, shown, ◌++◌, ◌≡◌}
use Rattle.ldscript_statements.proofs.mention.note_body.Given as goal

abbrev pub invariant-loop-statement : goal.invariant-loop-statement
invariant-loop-statement l = shown l.list.items ++ in_body
    (drop l.statement-index l.body) ≡ shown l.initial.list.items ++ in_body l.body
