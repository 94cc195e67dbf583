use Rattle.place_sections.proofs.Common.{AreOverlaps, subst}
use Rattle.place_sections.proofs.NoOverlaps.{is_good, are_overlap_faults, empty_list, nonempty_list}
use Rattle.place_sections.proofs.place.place.Goals as goal

pub returns-then-is_empty-clause-good : goal.returns-then-is_empty-clause-good
returns-then-is_empty-clause-good g c =
    is_good c.args.script.now _ _ c.in_ok-placement.placement c.in_ok-placement.ensures.placed
    c.in_ok-overlapping.overlapping.items
    (subst (λ s. AreOverlaps s c.in_ok-overlapping.overlapping.items) c.sections.ensures c.in_ok-overlapping.ensures)
    (empty_list _ _ c.is_empty.result c.as_slice.ensures.value c.is_empty.ensures c.if-is_empty.true)

pub returns-else-is_empty-clause-faulty : goal.returns-else-is_empty-clause-faulty
returns-else-is_empty-clause-faulty g c =
    are_overlap_faults c.args.script.now _ _ c.in_ok-placement.placement c.in_ok-placement.ensures.placed
    c.in_ok-overlapping.overlapping.items
    (subst (λ s. AreOverlaps s c.in_ok-overlapping.overlapping.items) c.sections.ensures c.in_ok-overlapping.ensures)
    (nonempty_list _ _ c.is_empty.result c.as_slice.ensures.value c.is_empty.ensures c.if-is_empty.false)
