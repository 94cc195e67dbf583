use Rattle.ldscript.proofs.Bodies.{width_none}
use Rattle.ldscript.proofs.read_body.width.Goals as goal

pub returns-in_err-rest : goal.returns-in_err-rest
returns-in_err-rest c = rw c.from_residual.ensures
    (width_none _ (rw c.copy.ensures at c.in_default.ensures) (rw c.copy-2.ensures at c.in_default-after_key.ensures)
    (rw c.copy-3.ensures at c.in_default-after_key-2.ensures) c.in_err-rest.ensures)
