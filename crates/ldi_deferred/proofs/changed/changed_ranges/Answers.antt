use Rattle.ldi_deferred.proofs.Common.{AreWithin, ByteRange, IsOutside, List, arith, length, slice_get, subst, sym, ◌-◌}
use Rattle.ldi_deferred.proofs.Common.{◌≡◌}
use Rattle.ldi_deferred.proofs.ImageChanges.{same_more, within_more}
use Rattle.ldi_deferred.proofs.changed.changed_ranges.Goals as goal

pub loop-at-preserved : goal.loop-at-preserved
loop-at-preserved c =
    let end = c.skip_changed-end.result in
    let range : ByteRange = record { offset = c.loop-at.at; count = end - c.loop-at.at } in
    record {
      within = c.skip_same-at-in-loop-at.ensures.within;
      inside = subst (λ (ranges : List ByteRange). AreWithin (length c.args.image.now) ranges)
          (sym c.in_ok-push.ensures.items)
          (within_more (length c.args.image.now) c.loop-at.ranges.items range c.loop-at.invariant.inside
          (omega (arith, c.skip_changed-end.ensures.after, c.skip_changed-end.ensures.within)));
      same = λ k low outside.
          same_more (λ at. slice_get c.args.sent.now at ≡ slice_get c.args.image.now at) c.loop-at.ranges.items range
          c.skip_same-at-in-loop-at.result c.loop-at.invariant.same
          (λ at after. c.skip_same-at-in-loop-at.ensures.same at
          (omega (arith, after, c.skip_changed-end.ensures.after))) k low
          (subst (λ (ranges : List ByteRange). IsOutside k ranges) c.in_ok-push.ensures.items outside);
    }
