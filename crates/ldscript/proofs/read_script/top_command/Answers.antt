use Rattle.ldscript.proofs.Tops.{top_none}
use Rattle.ldscript.proofs.read_script.top_command.Goals as goal

pub returns-in_default-4 : goal.returns-in_default-4
returns-in_default-4 c =
    let a = rw (c.in_default.is, c.copy.ensures) at c.in_ok-items.ensures in
    let b = rw (c.in_default-2.is, c.copy-2.ensures) at c.in_ok-regions.ensures in
    let d = rw (c.in_default-3.is, c.copy-3.ensures) at c.in_ok-name.ensures in
    top_none _ a b d (rw c.in_default-4.is at c.in_ok-command.ensures)
