use Rattle.ldscript.proofs.Common.{CloseParenthesis, OpenParenthesis, mark, pattern, some, ◌▸◌}
use Rattle.ldscript.proofs.Singles.{mark_fixed}
use Rattle.ldscript.proofs.Reading.{none_front, reads_behind}
use Rattle.ldscript.proofs.read_input.excluded_files.Goals as goal

pub returns-in-Some : goal.returns-in-Some
returns-in-Some c =
    reads_behind (mark OpenParenthesis) (λ ps. some pattern ps ▸ mark CloseParenthesis)
    (mark_fixed OpenParenthesis) _ _ c.in-Some.ensures (λ x. x.0) (λ x. x.1) _ c.some_patterns.ensures

pub returns-in-None : goal.returns-in-None
returns-in-None c = none_front (mark OpenParenthesis)
    (λ ps. some pattern ps ▸ mark CloseParenthesis) _ c.in-None.ensures
