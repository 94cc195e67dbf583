use Rattle.ldscript.proofs.Common.{Greater, mark, refl}
use Rattle.ldscript.specs.Steps.{name}
use Rattle.ldscript.proofs.Singles.{mark_fixed}
use Rattle.ldscript.proofs.Reading.{none_behind}
use Rattle.ldscript.proofs.read_section.region.Goals as goal

pub returns-in_default : goal.returns-in_default
returns-in_default c = (refl, rw c.copy.ensures at c.in_default.ensures)

pub returns-in_default-plain_name : goal.returns-in_default-plain_name
returns-in_default-plain_name c =
    let h = rw c.copy.ensures at c.in-Some.ensures.0 in
    (_, h, none_behind (mark Greater) name (mark_fixed Greater) _ _ h c.in_default-plain_name.ensures)
