use Rattle.ldscript.proofs.Directives.{condition_none, message_none}
use Rattle.ldscript.proofs.read_directive.asserted.Goals as goal

pub returns-in_default : goal.returns-in_default
returns-in_default c = λ y more d. c.in_default.ensures d.0 d.1

pub returns-in_default-2 : goal.returns-in_default-2
returns-in_default-2 c = condition_none _ _ c.in-Some.ensures.0 (rw c.in_default-2.is at c.in_ok-condition.ensures)

pub returns-in_default-message : goal.returns-in_default-message
returns-in_default-message c =
    message_none _ _ _ _ c.in-Some.ensures.0
    (rw c.in-Some-2.is at c.in_ok-condition.ensures).spells c.in_default-message.ensures
