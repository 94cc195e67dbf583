-- What is listed, with what is still to be listed, is all.
use Rattle.ldscript_statements.proofs.Common.{drop, items, shown_items, ◌++◌, ◌≡◌}
use Rattle.ldscript_statements.proofs.numbering.items.Given as goal

abbrev pub invariant-loop-statement : goal.invariant-loop-statement
invariant-loop-statement l = shown_items l.list.items ++ items
    (drop l.statement-index l.statements) ≡ shown_items l.initial.list.items ++ items l.statements
