use Rattle.ldscript.proofs.Common.{CloseBrace, Stops, Whole, mark, region}
use Rattle.ldscript.proofs.Each.{each_so_far_closed, each_so_far_member, each_so_far_stuck}
use Rattle.ldscript.proofs.Regions.{regions_listed}
use Rattle.ldscript.proofs.read_region.regions.Goals as goal

pub returns-in-Some : goal.returns-in-Some
returns-in-Some c = let m = rw c.copy.ensures at c.in-Some.ensures in
    each_so_far_closed (mark CloseBrace) region _ _ _ _ c.reading.invariant m.0 m.1

pub returns-in_default-2 : goal.returns-in_default-2
returns-in_default-2 c =
    let n = (rw c.in_default-2.is at c.in_ok-region.ensures) in
    each_so_far_stuck (Stops Whole) (mark CloseBrace) region regions_listed _ _ _ c.reading.invariant
    (rw c.copy.ensures at c.in_default.ensures) n

pub reading-preserved : goal.reading-preserved
reading-preserved c = rw c.in_ok-push.ensures
    (each_so_far_member (Stops Whole) (mark CloseBrace) region regions_listed _ _ _ _ _ c.reading.invariant
    (rw c.in-Some-2.is at c.in_ok-region.ensures).spells (rw c.in-Some-2.is at c.in_ok-region.ensures).only
    (rw c.in-Some-2.is at c.in_ok-region.ensures).shorter)
