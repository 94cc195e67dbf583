use Rattle.gather.proofs.Common.{List, Slots, ap, arith, length, length-map, section_of, subst, sym}
use Rattle.gather.proofs.Counting.{LaidUpTo, all_before, all_linked, none_laid, one_laid}
use Rattle.gather.proofs.slots.lay_slots.Goals as goal

pub loop-input-init : goal.loop-input-init
loop-input-init c =
    subst (λ (l : List Slots). LaidUpTo c.inputs-inputs.result.now l 0 0 0) (sym c.in_ok-objects.ensures.items)
    (none_laid c.inputs-inputs.result.now)

pub loop-input-preserved : goal.loop-input-preserved
loop-input-preserved c =
    one_laid c.inputs-inputs.result.now c.loop-input.input-index c.input-item.result c.loop-input.objects.items _
    c.loop-input.slots c.count_of-count.result _ c.loop-input.linked _
    c.loop-input-test.true c.input-item.is c.loop-input.invariant (sym c.in_ok-slots.ensures.is)
    (omega (
      arith,
      ap length c.sections.ensures.value,
      length-map c.input-item.result.object.now.sections section_of,
    ))
    c.count_of-count.ensures.reaches c.count_of-count.ensures.many c.in_ok-push.ensures.items

pub returns-clause-laid : goal.returns-clause-laid
returns-clause-laid c = c.loop-input.invariant.laid

pub returns-clause-counted : goal.returns-clause-counted
returns-clause-counted c =
    all_linked c.args.project.now c.inputs-inputs.result.now c.loop-input.objects.items c.loop-input.slots
    c.loop-input.linked c.loop-input.input-index c.inputs-inputs.ensures.same c.loop-input-test.false
    c.loop-input.invariant

pub returns-clause-linked : goal.returns-clause-linked
returns-clause-linked c =
    all_before c.args.project.now c.inputs-inputs.result.now c.loop-input.objects.items c.loop-input.slots
    c.loop-input.linked c.loop-input.input-index c.inputs-inputs.ensures.same c.loop-input.invariant
