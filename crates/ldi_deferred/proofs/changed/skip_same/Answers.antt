use Rattle.ldi_deferred.proofs.Common.{arith, slice_get, ◌≡◌}
use Rattle.ldi_deferred.proofs.ImageChanges.{joined}
use Rattle.ldi_deferred.proofs.changed.skip_same.Goals as goal

pub loop-at-preserved : goal.loop-at-preserved
loop-at-preserved c = record {
  low = omega (arith, c.loop-at.invariant.low, c.block_end-end.ensures.after);
  within = c.block_end-end.ensures.within;
  same = joined (λ k. slice_get c.args.sent.now k ≡ slice_get c.args.image.now k) c.args.from c.loop-at.at _
      c.loop-at.invariant.same (c.is_same.ensures c.if-not-is_same.false);
}
