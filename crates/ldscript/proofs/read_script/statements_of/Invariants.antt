use Rattle.ldscript.proofs.Common.{length, top_statement}
use Rattle.ldscript.proofs.Tops.{at_end}
use Rattle.ldscript.proofs.Lists.{SoFar}
use Rattle.ldscript.proofs.read_script.statements_of.Given as goal

abbrev pub decreases-reading : goal.decreases-reading
decreases-reading l = length l.rest

abbrev pub invariant-reading : goal.invariant-reading
invariant-reading l = SoFar (at_end) top_statement l.fn.tokens l.statements l.rest
