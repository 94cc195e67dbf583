use Rattle.place_terms.proofs.Common.{arith, length, refl, slice_get_read, sym}
use Rattle.place_terms.proofs.Found.{region_past, region_there}
use Rattle.place_terms.proofs.regions.numbered.Goals as goal

pub returns-in-Some-get : goal.returns-in-Some-get
returns-in-Some-get c =
    sym (region_there c.args.script.now c.args.list.now c.args.name.now c.requires c.in-Some.number
    c.in-Some-get.region.now (sym c.in-Some.ensures)
    (slice_get_read c.args.list.now (length c.args.list.now) c.in-Some.number c.in-Some-get.region.now refl
    c.in-Some-get.ensures.lookup.3.0 c.in-Some-get.ensures.lookup.1))

pub returns-in-None-get : goal.returns-in-None-get
returns-in-None-get c =
    sym (region_past c.args.script.now c.args.list.now c.args.name.now c.requires c.in-Some.number
    (sym c.in-Some.ensures) (omega (arith, c.in-None-get.ensures.lookup)))
