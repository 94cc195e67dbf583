use Rattle.ldi_deferred.proofs.Common.{arith, length, ◌∙◌}
use Rattle.ldi_deferred.proofs.Copying.{copied_more, none_left}
use Rattle.ldi_deferred.proofs.RangeTexts.{within_at}
use Rattle.ldi_deferred.proofs.remember.copy_ranges.Goals as goal

pub copy_range-requires-clause-within : goal.copy_range-requires-clause-within
copy_range-requires-clause-within c =
    within_at (length c.args.image.now) c.args.ranges.now c.loop-range.range-index (record { offset = 0; count = 0 })
    c.requires.within c.loop-range-test.true

pub loop-range-preserved : goal.loop-range-preserved
loop-range-preserved c = record {
  long = c.copy_range.ensures.length ∙ c.loop-range.invariant.long;
  same = copied_more c.loop-range.sent c.copy_range.new.sent c.args.image.now c.args.ranges.now
      c.loop-range.range-index _ (record { offset = 0; count = 0 }) (length c.args.sent.now) c.loop-range-test.true
      (omega arith) c.loop-range.invariant.same
      (λ at low high within. c.copy_range.ensures.inside at low high
      (omega (arith, within, c.loop-range.invariant.long)))
      c.copy_range.ensures.outside;
}

pub returns-clause-same : goal.returns-clause-same
returns-clause-same c = λ at low.
    c.loop-range.invariant.same at low
    (none_left c.args.ranges.now c.loop-range.range-index at (omega (arith, c.loop-range-test.false)))
