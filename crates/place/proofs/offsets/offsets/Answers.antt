-- In the end nothing is left.
use Rattle.place.proofs.Walking.{walked_all}
use Rattle.place.proofs.offsets.offsets.Goals as goal

pub returns : goal.returns
returns c s named same are =
    walked_all s c.args.sections.now c.args.segments.now _ c.loop-section.offsets.items c.loop-section.section-index
    named same are (c.segments_by_neighbours.ensures.is s.sections) c.loop-section-test.false c.loop-section.invariant
