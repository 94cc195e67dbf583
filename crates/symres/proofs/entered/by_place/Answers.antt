use Rattle.symres.proofs.Common.{arith, refl, sym}
use Rattle.symres.proofs.Entering.{all_keyed, are_apart, one_keyed}
use Rattle.symres.proofs.entered.by_place.Goals as goal

pub loop-place-preserved : goal.loop-place-preserved
loop-place-preserved c =
    one_keyed c.args.inputs.now c.loop-place.place c.index-inputs-place.result c.loop-place.list.items
    c.push.new.list.items _ (omega (arith, c.loop-place-test.true)) (sym c.index-inputs-place.is)
    c.in_ok-push.ensures.items refl c.loop-place.invariant

pub returns-clause-tables : goal.returns-clause-tables
returns-clause-tables c =
    all_keyed c.args.inputs.now c.loop-place.place c.loop-place.list.items (omega (arith, c.loop-place-test.false))
    c.loop-place.invariant

pub returns-clause-apart : goal.returns-clause-apart
returns-clause-apart c =
    are_apart c.args.inputs.now c.loop-place.list.items
    (all_keyed c.args.inputs.now c.loop-place.place c.loop-place.list.items (omega (arith, c.loop-place-test.false))
    c.loop-place.invariant)
