use Rattle.ldscript.proofs.Common.{Expression, Greater, codes, key, mark, refl, ◌▸◌}
use Rattle.ldscript.specs.Steps.{name}
use Rattle.ldscript.proofs.Singles.{key_fixed, mark_fixed}
use Rattle.ldscript.proofs.Reading.{none_behind}
use Rattle.ldscript.proofs.read_section.load_region.Goals as goal

pub returns-in_default : goal.returns-in_default
returns-in_default c = (refl, rw c.copy.ensures at c.in_default.ensures)

pub returns-in_default-after : goal.returns-in_default-after
returns-in_default-after c =
    let h = rw c.copy.ensures at c.in-Some.ensures.0 in (
      _,
      h,
      none_behind (key Expression (codes "AT")) (λ r. mark Greater ▸ name r)
          (key_fixed Expression (codes "AT")) _ _ h (λ y more d. c.in_default-after.ensures d.0 d.1),
    )

pub returns-in_default-plain_name : goal.returns-in_default-plain_name
returns-in_default-plain_name c =
    let h = rw c.copy.ensures at c.in-Some.ensures.0 in (
      _,
      h,
      none_behind (key Expression (codes "AT")) (λ r. mark Greater ▸ name r) (key_fixed Expression (codes "AT")) _ _ h
          (none_behind (mark Greater) name
          (mark_fixed Greater) _ _ c.in-Some-after.ensures.0 c.in_default-plain_name.ensures),
    )
