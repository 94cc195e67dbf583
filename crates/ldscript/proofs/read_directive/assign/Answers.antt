use Rattle.ldscript.proofs.Directives.{assign_none}
use Rattle.ldscript.proofs.read_directive.assign.Goals as goal

pub returns-in_default : goal.returns-in_default
returns-in_default c = λ y more d. c.in_default.ensures y.name d.0 d.1

pub returns-in_default-2 : goal.returns-in_default-2
returns-in_default-2 c = assign_none c.args.mode _ _ _ c.in-Some.ensures.spells
    (rw c.in_default-2.is at c.in_ok-value.ensures)
