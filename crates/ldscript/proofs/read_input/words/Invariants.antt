use Rattle.ldscript.proofs.Common.{CloseParenthesis, length, mark, word_part}
use Rattle.ldscript.proofs.Each.{EachSoFar}
use Rattle.ldscript.proofs.read_input.words.Given as goal

abbrev pub decreases-reading : goal.decreases-reading
decreases-reading l = length l.rest

abbrev pub invariant-reading : goal.invariant-reading
invariant-reading l = EachSoFar (mark CloseParenthesis) (word_part l.fn.may_exclude) l.fn.tokens l.words l.rest
