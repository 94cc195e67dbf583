use Rattle.ldscript.proofs.Common.{CloseBrace, input_statement, length, mark}
use Rattle.ldscript.proofs.Lists.{SoFar}
use Rattle.ldscript.proofs.read_input.inputs.Given as goal

abbrev pub decreases-reading : goal.decreases-reading
decreases-reading l = length l.rest

abbrev pub invariant-reading : goal.invariant-reading
invariant-reading l = SoFar (mark CloseBrace) input_statement l.fn.tokens l.inputs l.rest
