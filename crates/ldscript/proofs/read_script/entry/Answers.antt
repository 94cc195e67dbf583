use Rattle.ldscript.proofs.Common.{CloseParenthesis, Expression, OpenParenthesis, codes, key, mark, ◌▸◌}
use Rattle.ldscript.specs.Steps.{name}
use Rattle.ldscript.proofs.Singles.{key_fixed}
use Rattle.ldscript.proofs.Reading.{none_behind}
use Rattle.ldscript.proofs.read_script.entry.Goals as goal

pub returns-in_default : goal.returns-in_default
returns-in_default c = λ y more d. c.in_default.ensures d.0 d.1

pub returns-in_default-name_in_parentheses : goal.returns-in_default-name_in_parentheses
returns-in_default-name_in_parentheses c =
    none_behind (key Expression (codes "ENTRY")) (λ n. mark OpenParenthesis ▸ name n ▸ mark CloseParenthesis)
    (key_fixed Expression (codes "ENTRY")) _ _ c.in-Some.ensures.0 c.in_default-name_in_parentheses.ensures
