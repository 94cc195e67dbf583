-- One group a step; in the end each has its place.
use Rattle.place.proofs.Common.{AllZip, AreSegments, IsGroup, ap, arith, drop, groups, length, nonempty, segments}
use Rattle.place.proofs.Common.{subst, sym, ◌+◌, ◌≤◌}
use Rattle.place.proofs.FileOffsets.{congruent_near, Placing, placing_all, placing_more, placing_none, room}
use Rattle.place.proofs.FileOffsets.{segments_are}
use Rattle.place.proofs.segments.segments.Goals as goal

pub loop-group-init : goal.loop-group-init
loop-group-init c =
    placing_none c.deref-group-items.result.now c.in_ok-segments.segments.items c.header_length-end.result
    (c.in_ok-segments.ensures.items)
    (omega (arith, c.header_length-end.ensures, c.len.ensures, c.deref-group-items.ensures.len))

pub place_segment-segment-requires : goal.place_segment-segment-requires
place_segment-segment-requires c =
    let wide = room (length c.deref-group-items.result.now) c.loop-group.group-index c.loop-group.end
    c.in_ok-groups.groups.cap
    c.loop-group.invariant.near c.loop-group-test.true
    (omega (arith, c.deref-group-items.ensures.len, c.in_ok-groups.groups.ok.1)) c.in_ok-groups.groups.small in
    omega (arith, wide)

pub loop-group-preserved : goal.loop-group-preserved
loop-group-preserved c =
    let is = c.place_segment-segment.ensures in
    let near : c.place_segment-segment.result.offset ≤ c.loop-group.end + 4096 =
    omega (arith, ap (λ x. x.offset) is, congruent_near c.loop-group.end c.place_segment-segment.result.start) in
    let wide = room (length c.deref-group-items.result.now) c.loop-group.group-index c.loop-group.end
    c.in_ok-groups.groups.cap
    c.loop-group.invariant.near c.loop-group-test.true
    (omega (arith, c.deref-group-items.ensures.len, c.in_ok-groups.groups.ok.1)) c.in_ok-groups.groups.small in
    subst (λ l. Placing c.deref-group-items.result.now
    (drop (c.loop-group.group-index + 1) c.deref-group-items.result.now) l
    c.end_after-end.result (c.loop-group.group-index + 1)) (sym (c.in_ok-push.ensures.items))
    (placing_more c.deref-group-items.result.now c.loop-group.group-index _ c.loop-group.segments.items c.loop-group.end
    c.end_after-end.result c.place_segment-segment.result c.loop-group.invariant c.loop-group-test.true is
    (c.end_after-end.ensures.value (c.end_after-end.ensures.fits wide near)) (c.end_after-end.ensures.near near)
    (omega (arith, wide, near)))

pub returns-clause-room : goal.returns-clause-room
returns-clause-room c = c.loop-group.invariant.room

pub returns-clause-are : goal.returns-clause-are
returns-clause-are c s same =
    subst (λ xs. AreSegments s (segments s) xs)
    (sym (placing_all c.deref-group-items.result.now c.loop-group.segments.items c.loop-group.end
    c.loop-group.group-index
    c.loop-group.invariant c.loop-group-test.false))
    (segments_are s c.deref-group-items.result.now
    (subst (λ xs. AllZip (IsGroup s) (groups (nonempty s)) xs) (sym c.deref-group-items.ensures.value)
    (c.in_ok-groups.ensures s same)))
