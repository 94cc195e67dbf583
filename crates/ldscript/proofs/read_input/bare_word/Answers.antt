use Rattle.ldscript.proofs.Inputs.{bare_none}
use Rattle.ldscript.proofs.read_input.bare_word.Goals as goal

pub returns-in_default : goal.returns-in_default
returns-in_default c = bare_none _ (rw c.in_default.is at c.in_ok-pattern.ensures)
