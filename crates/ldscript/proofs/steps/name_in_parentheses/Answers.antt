use Rattle.ldscript.proofs.Common.{CloseParenthesis, Expression, OpenParenthesis, mark, ◌▸◌}
use Rattle.ldscript.specs.Steps.{name}
use Rattle.ldscript.proofs.Singles.{mark_fixed, name_single, behind, behind_tree}
use Rattle.ldscript.proofs.steps.name_in_parentheses.Goals as goal

pub returns-in_err-rest : goal.returns-in_err-rest
returns-in_err-rest c = rw c.from_residual.ensures (λ y more d. c.in_err-rest.ensures d.0 d.1)

pub returns-in_err-name : goal.returns-in_err-name
returns-in_err-name c = rw c.from_residual-in_err-name.ensures (λ y more d.
    let e = behind (mark OpenParenthesis) (name y ▸ mark CloseParenthesis)
    (mark_fixed OpenParenthesis) _ _ more c.in_ok-rest.ensures.0 d in
    c.in_err-name.ensures y e.0 e.1)

pub returns-in_err-rest-2 : goal.returns-in_err-rest-2
returns-in_err-rest-2 c = rw c.from_residual-in_err-rest-2.ensures (λ y more d.
    let e = behind (mark OpenParenthesis) (name y ▸ mark CloseParenthesis)
    (mark_fixed OpenParenthesis) _ _ more c.in_ok-rest.ensures.0 d in
    let f = behind_tree name (mark CloseParenthesis)
    (name_single Expression) _ _ more _ y c.in_ok-name.ensures.spells e in
    c.in_err-rest-2.ensures more f.1)
