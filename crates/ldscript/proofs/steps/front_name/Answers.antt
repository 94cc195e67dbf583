use Rattle.ldscript.proofs.steps.front_name.Goals as goal

pub returns-in_err-word : goal.returns-in_err-word
returns-in_err-word c = rw c.from_residual.ensures (λ y more d. c.in_err-word.ensures y more d.1)
