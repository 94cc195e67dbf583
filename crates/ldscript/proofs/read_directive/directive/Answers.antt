use Rattle.ldscript.proofs.Directives.{directive_none}
use Rattle.ldscript.proofs.read_directive.directive.Goals as goal

pub returns-in_default-3 : goal.returns-in_default-3
returns-in_default-3 c =
    let a = rw (c.in_default.is, c.copy.ensures) at c.in_ok-assignment.ensures in
    let p = rw (c.in_default-2.is, c.copy-2.ensures) at c.in_ok-assignment-2.ensures in
    directive_none c.args.mode _ a p (rw c.in_default-3.is at c.in_ok-assertion.ensures)
