-- One range a step.
use Rattle.place_sections.proofs.Common.{None, ap, arith, before, fault_with, get_or_read, ◌++◌, ◌∙◌}
use Rattle.place_sections.proofs.FoundUpTo.{found_all, found_more, first_overlap_is}
use Rattle.place_sections.proofs.overlaps.push_first_overlaps.Goals as goal

pub loop-k-preserved : goal.loop-k-preserved
loop-k-preserved c =
    found_more c.args.space c.args.extents.now c.loop-k.k (record { start = 0; size = 0 }) c.loop-k.faults.items
    c.push_first_overlap.new.faults.items _ c.loop-k-test.true
    (c.in_ok-push_first_overlap.ensures
    ∙ ap (λ o. c.loop-k.faults.items ++ fault_with c.args.space c.loop-k.k (before c.loop-k.k o))
    (get_or_read c.in_ok-firsts.firsts.items c.loop-k.k c.index.result.now
    (omega (arith, c.loop-k-test.true, c.in_ok-firsts.ensures.count)) c.index.ensures None)
    ∙ ap (λ l. c.loop-k.faults.items ++ l)
    (first_overlap_is c.args.space c.args.extents.now c.in_ok-firsts.firsts.items c.loop-k.k _ c.loop-k-test.true
    c.in_ok-firsts.ensures))
    c.loop-k.invariant

pub returns : goal.returns
returns c =
    found_all c.args.space c.args.extents.now _ c.loop-k.k c.loop-k.faults.items _ c.loop-k-test.false
    c.loop-k.invariant
