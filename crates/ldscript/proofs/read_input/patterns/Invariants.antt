use Rattle.ldscript.proofs.Common.{CloseParenthesis, length, mark, pattern}
use Rattle.ldscript.proofs.Each.{EachSoFar}
use Rattle.ldscript.proofs.read_input.patterns.Given as goal

abbrev pub decreases-reading : goal.decreases-reading
decreases-reading l = length l.rest

abbrev pub invariant-reading : goal.invariant-reading
invariant-reading l = EachSoFar (mark CloseParenthesis) pattern l.fn.tokens l.patterns l.rest
