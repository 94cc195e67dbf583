use Rattle.emit_relocate.proofs.Common.{arith, refl}
use Rattle.emit_relocate.proofs.Changing.{changed_none, object_at, whole_link}
use Rattle.emit_relocate.proofs.Filling.{all_inputs, input_at}
use Rattle.emit_relocate.proofs.changed_fields.changed_fields.Goals as goal

pub loop-place-preserved : goal.loop-place-preserved
loop-place-preserved g c =
    λ old l k e all low.
    let there = input_at l c.args.link.now k c.inputs-inputs.result.now c.inputs-inputs.ensures.same
    c.loop-place.place c.index-inputs-place.result c.index-inputs-place.is c.loop-place-test.true in
    object_at old l (g.E.PreviousLinkInfo.range c.args.previous.now) _ _ _ l.project.objects c.loop-place.place
    _ there.1
    (c.loop-place.invariant old l k e all low)
    (c.in_ok-add_object.ensures old l _ (record { link = k; previous = e; symbols = all; below = low }) there.0 refl)

pub returns : goal.returns
returns g c =
    λ old l k e all low.
    whole_link old l (g.E.PreviousLinkInfo.range c.args.previous.now) c.loop-place.place
    (all_inputs l c.args.link.now k c.inputs-inputs.result.now c.inputs-inputs.ensures.same c.loop-place.place
    c.loop-place-test.false) _ _
    (c.loop-place.invariant old l k e all low)

pub loop-place-init : goal.loop-place-init
loop-place-init g c =
    λ old l k e all low.
    changed_none old l (g.E.PreviousLinkInfo.range c.args.previous.now) _ _ c.list_for.ensures
    c.in_ok-with_capacity.ensures.items
    c.list_for-2.ensures c.new.ensures.items refl
    (omega (arith, c.fields-fields.type_inv, c.fields-fields.ensures))
