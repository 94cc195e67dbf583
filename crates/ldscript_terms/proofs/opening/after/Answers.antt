use Rattle.ldscript_terms.proofs.opening.after.Goals as goal

pub returns-in_err-mark : goal.returns-in_err-mark
returns-in_err-mark c = rw c.from_residual.ensures (λ rest b. c.in_err-mark.ensures c.args.wanted rest b)
