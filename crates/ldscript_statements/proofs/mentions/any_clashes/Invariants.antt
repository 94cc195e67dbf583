-- Up to here nothing clashes, and the set holds what was met.
use Rattle.ldscript_statements.proofs.Common.{shown, take}
use Rattle.ldscript_statements.proofs.Scanning.{Scanned}
use Rattle.ldscript_statements.proofs.mentions.any_clashes.Given as goal

abbrev pub invariant-loop-mention : goal.invariant-loop-mention
invariant-loop-mention l = Scanned l.given.keys (shown (take l.mention-index l.mentions))
