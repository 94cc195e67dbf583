use Rattle.gather.proofs.Counting.{as_many, none_reach, reaches}
use Rattle.gather.proofs.slots.count_of.Goals as goal

pub returns-in-None-clause-reaches : goal.returns-in-None-clause-reaches
returns-in-None-clause-reaches c =
    none_reach c.args.object.now.sections c.sections.result.now _ c.sections.ensures.value c.in-None.ensures.item.3

pub returns-in-Some-clause-reaches : goal.returns-in-Some-clause-reaches
returns-in-Some-clause-reaches c =
    reaches c.args.object.now.sections c.sections.result.now c.in-Some.last.now _ c.sections.ensures.value
    c.sections.ensures.ascending c.in-Some.ensures.item.3.0 c.in-Some.ensures.item.1 c.count_to.ensures

pub returns-in-Some-clause-many : goal.returns-in-Some-clause-many
returns-in-Some-clause-many c =
    as_many c.args.object.now.sections c.sections.result.now c.in-Some.last.now _ c.sections.ensures.value
    c.sections.ensures.ascending c.in-Some.ensures.item.3.0 c.in-Some.ensures.item.1 c.count_to.ensures
