use Rattle.ldi_deferred.proofs.Common.{arith, slice_get, ◌≡◌}
use Rattle.ldi_deferred.proofs.ImageChanges.{joined}
use Rattle.ldi_deferred.proofs.changed.skip_lines.Goals as goal

pub loop-at-preserved : goal.loop-at-preserved
loop-at-preserved c = record {
  low = omega (arith, c.loop-at.invariant.low);
  within = omega (arith, c.loop-at.invariant.within, c.loop-at-test.true);
  same = joined (λ k. slice_get c.args.sent.now k ≡ slice_get c.args.image.now k) c.args.from c.loop-at.at _
      c.loop-at.invariant.same (c.is_same_line.ensures c.if-not-is_same_line.false);
}
