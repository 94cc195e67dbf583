use Rattle.ldmodel_project.proofs.Common.{arith}
use Rattle.ldmodel_project.proofs.Noting.{first_empty, has_places}
use Rattle.ldmodel_project.proofs.order.places_of.Goals as goal

pub loop-place-init : goal.loop-place-init
loop-place-init c = first_empty c.args.keys.now c.in_ok-places.places.items c.in_ok-places.ensures.items

pub returns : goal.returns
returns c =
    has_places c.args.keys.now c.loop-place.place c.loop-place.places.items c.requires (omega arith)
    (omega arith) c.loop-place.invariant
