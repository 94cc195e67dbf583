use Rattle.ldi_deferred.proofs.Common.{List, Part, Part-front, Part-then, Writes-cut, range_line, subst, sym, ℕ}
use Rattle.ldi_deferred.proofs.RangeTexts.{cut_at}
use Rattle.ldi_deferred.proofs.answer.write_lines.Goals as goal

pub returns-in_err-write_range-clause-text : goal.returns-in_err-write_range-clause-text
returns-in_err-write_range-clause-text g c =
    let old = g.W.Sink.written c.args.sink.now in
    let new = g.W.Sink.written c.write_range.new.sink in
    Writes-cut _ old new _ _ c.from_residual.ensures.1
    (subst (λ (text : List ℕ). Part old new text)
    (sym (cut_at range_line c.args.ranges.now c.loop-range.range-index (record { offset = 0; count = 0 })
    c.loop-range-test.true))
    (Part-then old _ new _ _ c.loop-range.invariant.wrote (Part-front _ new _ _ c.in_err-write_range.ensures.text)))
