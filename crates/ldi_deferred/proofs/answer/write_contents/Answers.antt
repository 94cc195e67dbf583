use Rattle.ldi_deferred.proofs.Common.{List, Part, Part-front, Part-then, Writes-cut, length, range_bytes, subst, sym}
use Rattle.ldi_deferred.proofs.Common.{ℕ}
use Rattle.ldi_deferred.proofs.RangeTexts.{cut_at, within_at}
use Rattle.ldi_deferred.proofs.answer.write_contents.Goals as goal

pub bytes_in-requires : goal.bytes_in-requires
bytes_in-requires g c =
    within_at (length c.args.image.now) c.args.ranges.now c.loop-range.range-index (record { offset = 0; count = 0 })
    c.requires c.loop-range-test.true

pub returns-in_err-write_all-clause-text : goal.returns-in_err-write_all-clause-text
returns-in_err-write_all-clause-text g c =
    let old = g.W.Sink.written c.args.sink.now in
    let new = g.W.Sink.written c.write_all.new.sink in
    Writes-cut _ old new _ _ c.from_residual.ensures.1
    (subst (λ (text : List ℕ). Part old new text)
    (sym (cut_at (range_bytes c.args.image.now) c.args.ranges.now c.loop-range.range-index
    (record { offset = 0; count = 0 }) c.loop-range-test.true))
    (Part-then old _ new _ _ c.loop-range.invariant.wrote
    (Part-front _ new _ _ (rw c.bytes_in.ensures at c.in_err-write_all.ensures.err))))
