use Rattle.ldscript.proofs.Tails.{tail_region_stuck, tail_load_stuck, tail_fill_stuck, takes_tail}
use Rattle.ldscript.proofs.read_section.tail.Goals as goal

pub returns-in_default : goal.returns-in_default
returns-in_default c = let n = rw c.in_default.is at c.in_ok-region.ensures in tail_region_stuck _ n.0 n.1 n.2

pub returns-in_default-2 : goal.returns-in_default-2
returns-in_default-2 c =
    let r = rw c.in-Some.is at c.in_ok-region.ensures in
    let n = rw c.in_default-2.is at c.in_ok-load.ensures in
    tail_load_stuck _ _ n.0 c.in-Some.region r n.1 n.2

pub returns-in_default-3 : goal.returns-in_default-3
returns-in_default-3 c =
    let r = rw c.in-Some.is at c.in_ok-region.ensures in
    let l = rw c.in-Some-2.is at c.in_ok-load.ensures in
    let n = rw c.in_default-3.is at c.in_ok-fill.ensures in
    tail_fill_stuck _ _ _ n.0 c.in-Some.region c.in-Some-2.load r l n.1 n.2

pub returns : goal.returns
returns c = takes_tail _ _ _ _ _ (rw c.in-Some.is at c.in_ok-region.ensures) (rw c.in-Some-2.is at c.in_ok-load.ensures)
    (rw c.in-Some-3.is at c.in_ok-fill.ensures)
