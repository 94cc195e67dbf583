use Rattle.relink_driver.proofs.Common.{NamedObject, NamedSymbol, Some, ap, length, length-map, option_map, previous_of}
use Rattle.relink_driver.proofs.Common.{refl, same_Some, shown_input, shown_inputs, slice_get, slice_get-map}
use Rattle.relink_driver.proofs.Common.{slice_get_read, subst, sym, ◌∙◌, ◌≡◌}
use Rattle.relink_driver.proofs.CleanObjectValues.{MarksSoFar, are_marks, no_marks, one_mark_more}
use Rattle.relink_driver.proofs.dirty.dirty_objects.Goals as goal

pub loop-place-init : goal.loop-place-init
loop-place-init c =
    subst (MarksSoFar (previous_of c.args.previous) c.args.symbols.now (shown_inputs c.inputs-inputs.result.now) 0)
    (sym c.in_ok-dirty.ensures.items)
    (no_marks (previous_of c.args.previous) c.args.symbols.now (shown_inputs c.inputs-inputs.result.now))

pub loop-place-preserved : goal.loop-place-preserved
loop-place-preserved c =
    let inputs = c.inputs-inputs.result.now in
    let input = c.index-inputs-place.result in
    let at : slice_get (shown_inputs inputs) c.loop-place.place ≡ Some (shown_input input) =
    slice_get-map shown_input inputs c.loop-place.place
    ∙ ap (option_map shown_input)
    (slice_get_read inputs (length inputs) c.loop-place.place input refl c.loop-place-test.true
    c.index-inputs-place.is) in
    one_mark_more (previous_of c.args.previous) c.args.symbols.now (shown_inputs inputs) c.loop-place.place
    c.loop-place.dirty.items c.push.new.list.items c.is_dirty.result _ c.in_ok-push.ensures.items
    (λ o there. (
    let same : shown_input input ≡ o = same_Some _ _ (sym at ∙ there) in
    ap (λ (v : NamedObject). length v.object.symbols) (sym same)
    ∙ sym (ap length c.symbols.ensures.value ∙ length-map _ (λ (s : NamedSymbol). s.symbol))))
    c.is_dirty.ensures c.loop-place.invariant

pub returns : goal.returns
returns c = λ old s is values.
    are_marks old c.args.project.now s (previous_of c.args.previous) c.args.symbols.now
    (shown_inputs c.inputs-inputs.result.now) c.loop-place.dirty.items c.loop-place.place c.inputs-inputs.ensures.same
    c.loop-place.invariant is values
