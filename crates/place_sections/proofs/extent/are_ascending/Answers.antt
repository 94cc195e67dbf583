-- One range a step.
use Rattle.place_sections.proofs.Covering.{ascends_over_all, ascends_over_none}
use Rattle.place_sections.proofs.extent.are_ascending.Goals as goal

pub loop-extent-init : goal.loop-extent-init
loop-extent-init c = ascends_over_none c.args.extents.now

pub returns : goal.returns
returns c holds =
    ascends_over_all c.args.extents.now c.loop-extent.extent-index c.loop-extent.end c.loop-extent-test.false
    c.loop-extent.invariant
