use Rattle.ldscript.proofs.Items.{head_no_at, head_at_stuck, head_opened_none}
use Rattle.ldscript.proofs.read_section.head.Goals as goal

pub returns-in_default-2 : goal.returns-in_default-2
returns-in_default-2 c = head_no_at _ (rw c.copy.ensures at c.in_default.ensures)
    (rw c.in_default-2.is at c.in_ok-alignment.ensures)

pub returns-in_default-3 : goal.returns-in_default-3
returns-in_default-3 c =
    let n = (rw c.in_default-3.is at c.in_ok-load.ensures) in
    head_at_stuck _ _ (rw c.copy.ensures at c.in-Some.ensures.0) (λ e vs r a x y. n e vs x)

pub returns-in_default-4 : goal.returns-in_default-4
returns-in_default-4 c =
    let n = (rw c.in_default-4.is at c.in_ok-alignment-2.ensures) in
    head_at_stuck _ _ (rw c.copy.ensures at c.in-Some.ensures.0)
    (head_opened_none _ _ _ (rw c.in-Some-3.is at c.in_ok-load.ensures).spells n)
