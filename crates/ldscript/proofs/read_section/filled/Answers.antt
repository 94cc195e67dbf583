use Rattle.ldscript.proofs.Common.{refl}
use Rattle.ldscript.proofs.read_section.filled.Goals as goal

pub returns-in_default : goal.returns-in_default
returns-in_default c = (refl, rw c.copy.ensures at c.in_default.ensures)
