-- One segment a step.
use Rattle.place.proofs.Common.{ap, arith, length, ◌∙◌}
use Rattle.ldmodel.specs.Segments.{headers_end}
use Rattle.place.proofs.FileOffsets.{reached_all, reached_more, reached_near, reached_none, room}
use Rattle.place.proofs.length.loaded_end.Goals as goal

pub loop-segment-init : goal.loop-segment-init
loop-segment-init c follow =
    reached_none c.args.segments.now c.header_length-end.result follow
    (c.header_length-end.ensures ∙ ap headers_end c.count.ensures.value)

pub loop-segment-preserved : goal.loop-segment-preserved
loop-segment-preserved c follow =
    let h = c.loop-segment.invariant follow in
    let wide = room (length c.args.segments.now) c.loop-segment.segment-index c.loop-segment.end
    (length c.args.segments.now)
    h.near c.loop-segment-test.true (omega arith) (omega (arith, c.count.ensures.value, c.count.ensures.small)) in
    let near = reached_near c.args.segments.now c.loop-segment.segment-index _ c.loop-segment.end h
    c.loop-segment-test.true in
    reached_more c.args.segments.now c.loop-segment.segment-index _ c.loop-segment.end c.end_after-end.result h
    c.loop-segment-test.true (c.end_after-end.ensures.value (c.end_after-end.ensures.fits wide near))
    (c.end_after-end.ensures.near near)

pub returns-clause-exact : goal.returns-clause-exact
returns-clause-exact c follow =
    c.min.ensures
    ∙ reached_all c.args.segments.now c.loop-segment.segment-index c.loop-segment.end (c.loop-segment.invariant follow)
    c.loop-segment-test.false c.loop-segment.auto.segment-index-end
    (omega (arith, c.count.ensures.value, c.count.ensures.small))
