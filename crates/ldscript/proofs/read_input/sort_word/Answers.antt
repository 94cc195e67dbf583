use Rattle.ldscript.proofs.Inputs.{sort_none}
use Rattle.ldscript.proofs.read_input.sort_word.Goals as goal

pub returns-in_err-rest : goal.returns-in_err-rest
returns-in_err-rest c = rw c.from_residual.ensures
    (sort_none _ (rw c.copy.ensures at c.in_default.ensures)
    (rw c.copy-2.ensures at c.in_default-after_key.ensures) c.in_err-rest.ensures)
