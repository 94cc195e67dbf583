-- No statement up to here is an ENTRY.
use Rattle.ldscript_statements.proofs.Common.{drop, entry_of, ◌≡◌}
use Rattle.ldscript_statements.proofs.numbering.entry.Given as goal

abbrev pub invariant-loop-statement : goal.invariant-loop-statement
invariant-loop-statement l = entry_of (drop l.statement-index l.statements) ≡ entry_of l.statements
