use Rattle.ldscript.proofs.Common.{CloseParenthesis, mark, string}
use Rattle.ldscript.proofs.Singles.{string_single, behind_tree}
use Rattle.ldscript.proofs.read_directive.message.Goals as goal

pub returns-in_err-rest : goal.returns-in_err-rest
returns-in_err-rest c = rw c.from_residual-in_err-rest.ensures (λ y more d.
    let f = behind_tree string (mark CloseParenthesis) string_single _ _ more _ y c.in_ok-text.ensures d in
    c.in_err-rest.ensures more f.1)
