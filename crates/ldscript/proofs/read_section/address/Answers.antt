use Rattle.ldscript.proofs.Items.{address_none}
use Rattle.ldscript.proofs.read_section.address.Goals as goal

pub returns-in_default-2 : goal.returns-in_default-2
returns-in_default-2 c = address_none _ (rw c.copy.ensures at c.in_default.ensures)
    (rw c.in_default-2.is at c.in_ok-address.ensures)
