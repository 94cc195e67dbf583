use Rattle.emit_relocate.proofs.Common.{arith, refl, results_of}
use Rattle.emit_relocate.proofs.Filling.{renewed_none, renewed_some}
use Rattle.emit_relocate.proofs.changed_fields.Links.add_all_fields.Goals as goal

pub returns-in-None : goal.returns-in-None
returns-in-None g c =
    λ old l s k h. renewed_none l s (c.in-None.ensures.place l s k.link k.below h)
    (results_of c.args.fields.now c.args.meter.now) (omega (arith, c.fields-fields.type_inv, c.fields-fields.ensures))

pub returns-in_ok-add_fields-in-Some : goal.returns-in_ok-add_fields-in-Some
returns-in_ok-add_fields-in-Some g c =
    λ old l s k h.
    let place = c.in-Some.ensures.place l s k.link k.below h in
    renewed_some l s c.in-Some.section place _ _ refl refl
    (c.in_ok-add_fields-in-Some.ensures l s.object s.section place.section_is)
