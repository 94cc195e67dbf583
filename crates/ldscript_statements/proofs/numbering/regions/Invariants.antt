-- What is listed, with what is still to be listed, is all.
use Rattle.ldscript_statements.proofs.Common.{drop, regions, shown_regions, ◌++◌, ◌≡◌}
use Rattle.ldscript_statements.proofs.numbering.regions.Given as goal

abbrev pub invariant-loop-statement : goal.invariant-loop-statement
invariant-loop-statement l = shown_regions l.list.items ++ regions
    (drop l.statement-index l.statements) ≡ shown_regions l.initial.list.items ++ regions l.statements
