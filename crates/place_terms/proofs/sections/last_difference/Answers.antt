use Rattle.place_terms.proofs.Common.{Some, ap, if◌then◌else◌, keyed_taken, map, minus_modulo, same_region, sym, ◌∙◌}
use Rattle.place_terms.proofs.FoundSections.{difference_none, placed_next, taken_next}
use Rattle.place_terms.proofs.sections.last_difference.Goals as goal

pub loop-section-init : goal.loop-section-init
loop-section-init c = sym (difference_none (Some c.args.region.now))

pub loop-section-preserved : goal.loop-section-preserved
loop-section-preserved c =
    c.next_difference-difference.ensures
    ∙ (ap (λ d. if same_region c.section-item.result.output.now.region (Some c.args.region.now)
    then minus_modulo c.section-item.result.placed.now.start c.section-item.result.placed.now.load
    else d) c.loop-section.invariant
    ∙ sym (taken_next c.args.taken.now c.loop-section.section-index c.section-item.result (Some c.args.region.now)
    c.loop-section-test.true c.section-item.is))

pub loop-section-2-preserved : goal.loop-section-2-preserved
loop-section-2-preserved c =
    c.next_difference-difference-in-loop-section-2.ensures
    ∙ (ap (λ d. if same_region c.section-item-in-loop-section-2.result.output.now.region (Some c.args.region.now)
    then minus_modulo c.section-item-in-loop-section-2.result.placed.start
    c.section-item-in-loop-section-2.result.placed.load
    else d) c.loop-section-2.invariant
    ∙ sym (placed_next (map keyed_taken c.args.taken.now) c.args.list.now c.loop-section-2.section-index
    c.section-item-in-loop-section-2.result (Some c.args.region.now)
    c.loop-section-2-test.true c.section-item-in-loop-section-2.is))
