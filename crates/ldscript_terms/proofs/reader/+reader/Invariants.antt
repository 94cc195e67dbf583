use Rattle.ldscript_terms.proofs.Common.{expr_of, length, ◌*◌, ◌+◌}
use Rattle.ldscript_terms.proofs.Readings.{SoFar}
use Rattle.ldscript_terms.proofs.reader.+reader.Given as goal

abbrev pub decreases-primary : goal.decreases-primary
decreases-primary l = 32 * length l.tokens

abbrev pub decreases-arguments : goal.decreases-arguments
decreases-arguments l = 32 * length l.tokens

abbrev pub decreases-unary : goal.decreases-unary
decreases-unary l = 32 * length l.tokens + 1

abbrev pub decreases-binary : goal.decreases-binary
decreases-binary l = 32 * length l.tokens + 2 * l.below + 3

abbrev pub decreases-operand : goal.decreases-operand
decreases-operand l = 32 * length l.tokens + 2 * l.level + 2

abbrev pub decreases-whole : goal.decreases-whole
decreases-whole l = 32 * length l.tokens + 31

abbrev pub invariant-binary-loop-operator : goal.invariant-binary-loop-operator
invariant-binary-loop-operator l = SoFar l.below l.fn.tokens (expr_of l.tree) l.rest

abbrev pub decreases-binary-loop-operator : goal.decreases-binary-loop-operator
decreases-binary-loop-operator l = length l.rest
