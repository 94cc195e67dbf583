use Rattle.ldscript.proofs.Inputs.{sort_mark_none}
use Rattle.ldscript.proofs.read_input.sort.Goals as goal

pub returns-in_err-rest : goal.returns-in_err-rest
returns-in_err-rest c = rw c.from_residual-in_err-rest.ensures
    (sort_mark_none _ _ _ c.in_ok-sort.ensures.spells c.in_err-rest.ensures)
