use Rattle.ldscript.proofs.Directives.{add_none, set_none}
use Rattle.ldscript.proofs.read_directive.dot_change.Goals as goal

pub returns-in_default-2 : goal.returns-in_default-2
returns-in_default-2 c = add_none _ _ (rw c.copy.ensures at c.in-Some.ensures.0)
    (rw c.in_default-2.is at c.in_ok-value.ensures)

pub returns-in_default-3 : goal.returns-in_default-3
returns-in_default-3 c = set_none _ (rw c.copy.ensures at c.in_default.ensures)
    (rw c.in_default-3.is at c.in_ok-value-2.ensures)
