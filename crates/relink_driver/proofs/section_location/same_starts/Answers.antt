use Rattle.relink_driver.proofs.Common.{[], ap, arith, false, has_same_start, length, slice_index_or, ◌+◌, ◌∙◌, ◌≡◌}
use Rattle.relink_driver.proofs.Columns.{row_done, row_more}
use Rattle.relink_driver.proofs.StayedAtSameStart.{none_fixed}
use Rattle.relink_driver.proofs.section_location.same_starts.Goals as goal

pub loop-number-preserved : goal.loop-number-preserved
loop-number-preserved c =
    row_more _ _ _ _ c.loop-number.number c.has_same_start.result c.in_ok-push.ensures.items c.has_same_start.ensures
    c.loop-number.invariant

pub returns : goal.returns
returns c = λ n.
    let l = c.args.previous.now in
    let m = c.args.link_layout.now in
    let same : n ≡ 0 + n = omega arith in
    ap (λ i. slice_index_or c.loop-number.with_same_start.items i false) same
    ∙ (row_done (λ k. has_same_start l m k) [] c.loop-number.with_same_start.items c.loop-number.number
    (λ k past. none_fixed l m k (omega (arith, past, c.loop-number-test.false, ap length c.sections-count.ensures)))
    c.loop-number.invariant).are n
