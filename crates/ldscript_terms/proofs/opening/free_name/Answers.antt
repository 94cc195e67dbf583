use Rattle.ldscript_terms.proofs.Common.{Name}
use Rattle.ldscript_terms.specs.Grammar.{name}
use Rattle.ldscript_terms.proofs.opening.free_name.Goals as goal

pub returns-in_err-opening : goal.returns-in_err-opening
returns-in_err-opening c = rw c.from_residual.ensures (λ n rest b. c.in_err-opening.ensures (Name n) rest (name b) tt)
