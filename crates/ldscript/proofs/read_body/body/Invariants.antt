use Rattle.ldscript.proofs.Common.{CloseBrace, body_statement, length, mark}
use Rattle.ldscript.proofs.Lists.{SoFar}
use Rattle.ldscript.proofs.read_body.body.Given as goal

abbrev pub decreases-reading : goal.decreases-reading
decreases-reading l = length l.rest

abbrev pub invariant-reading : goal.invariant-reading
invariant-reading l = SoFar (mark CloseBrace) body_statement l.fn.tokens l.body l.rest
