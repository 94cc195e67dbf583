use Rattle.ldscript.proofs.Bodies.{body_none}
use Rattle.ldscript.proofs.read_body.body_command.Goals as goal

pub returns-in_default-4 : goal.returns-in_default-4
returns-in_default-4 c =
    let a = rw (c.in_default.is, c.copy.ensures) at c.in_ok-command.ensures in
    let b = rw (c.in_default-2.is, c.copy-2.ensures) at c.in_ok-command-2.ensures in
    let d = rw (c.in_default-3.is, c.copy-3.ensures) at c.in_ok-width.ensures in
    body_none _ a b d (rw c.in_default-4.is at c.in_ok-input.ensures)
