use Rattle.ldscript.proofs.Common.{CloseParenthesis, OpenParenthesis, ended, mark}
use Rattle.ldscript.proofs.Singles.{mark_fixed}
use Rattle.ldscript.proofs.Reading.{reads_behind}
use Rattle.ldscript.proofs.steps.in_parentheses.Goals as goal

pub returns-in-Some : goal.returns-in-Some
returns-in-Some c = reads_behind (mark OpenParenthesis) (ended CloseParenthesis)
    (mark_fixed OpenParenthesis) _ _ c.in-Some.ensures (λ x. x.0) (λ x. x.1) _ c.ended.ensures

pub returns-in-None : goal.returns-in-None
returns-in-None c = λ y more d. c.in-None.ensures d.0 d.1
