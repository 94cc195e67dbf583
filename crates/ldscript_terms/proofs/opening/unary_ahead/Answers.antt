use Rattle.ldscript_terms.proofs.Common.{rules}
use Rattle.ldscript_terms.proofs.opening.unary_ahead.Goals as goal

pub returns-in_err-mark : goal.returns-in_err-mark
returns-in_err-mark c = rw c.from_residual.ensures (λ op rest b. c.in_err-mark.ensures b.mark rest b.begins)

pub returns-in_err-unary_operator : goal.returns-in_err-unary_operator
returns-in_err-unary_operator c = rw c.from_residual-in_err-unary_operator.ensures (search rules)
