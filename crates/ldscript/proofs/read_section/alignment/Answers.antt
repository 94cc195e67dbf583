use Rattle.ldscript.proofs.Common.{arith}
use Rattle.ldscript.proofs.Items.{opened_none, no_alignment, alignment_stuck, alignment_open}
use Rattle.ldscript.proofs.read_section.alignment.Goals as goal

pub returns-in_default-after_key : goal.returns-in_default-after_key
returns-in_default-after_key c =
    opened_none _ (rw c.copy.ensures at c.in_default.ensures) (no_alignment _ c.in_default-after_key.ensures)

pub returns-in_default-2 : goal.returns-in_default-2
returns-in_default-2 c =
    let n = (rw c.in_default-2.is at c.in_ok-alignment.ensures) in
    opened_none _ (rw c.copy.ensures at c.in_default.ensures) (alignment_stuck _ _ c.in-Some-after_key.ensures.0 n)

pub returns-in-None : goal.returns-in-None
returns-in-None c = opened_none _ (rw c.copy.ensures at c.in_default.ensures)
    (alignment_open _ _ _ _ c.in-Some-after_key.ensures.0
    (rw c.in-Some-2.is at c.in_ok-alignment.ensures).spells c.in-None.ensures)

pub returns-in-Some-after : goal.returns-in-Some-after
returns-in-Some-after c =
    let k = c.in-Some-after_key.ensures in
    let e = rw c.in-Some-2.is at c.in_ok-alignment.ensures in
    record {
      spells = (_, (_, k.0, e.spells), c.in-Some-after.ensures.0);
      shorter = omega (arith, k.1, e.shorter, c.in-Some-after.ensures.1);
    }
