use Rattle.ldscript_terms.proofs.Refusals.{unnamed, name_unclosed}
use Rattle.ldscript_terms.proofs.opening.name_in_parentheses.Goals as goal

pub returns-in_err-inner : goal.returns-in_err-inner
returns-in_err-inner c = rw c.from_residual.ensures (λ n rest b. c.in_err-inner.ensures b.inner b.opens)

pub returns-in_err-name : goal.returns-in_err-name
returns-in_err-name c = rw c.from_residual-in_err-name.ensures (unnamed c.in_ok-inner.ensures c.in_err-name.ensures)

pub returns-in_err-rest : goal.returns-in_err-rest
returns-in_err-rest c =
    rw c.from_residual-in_err-rest.ensures
    (name_unclosed c.in_ok-inner.ensures c.in_ok-name.ensures c.in_err-rest.ensures)
