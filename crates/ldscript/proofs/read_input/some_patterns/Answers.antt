use Rattle.ldscript.proofs.Common.{CloseParenthesis, mark, pattern}
use Rattle.ldscript.proofs.Each.{some_none}
use Rattle.ldscript.proofs.read_input.some_patterns.Goals as goal

pub returns-in_default : goal.returns-in_default
returns-in_default c = some_none (mark CloseParenthesis) pattern _ (rw c.in_default.is at c.in_ok-patterns.ensures)
