use Rattle.ldi_stream.proofs.Common.{Appends-trans, arith, drop, length, length-drop, length-take, take, ◌-◌, ◌∙◌, ◌≤◌}
use Rattle.ldi_stream.proofs.StreamLines.{take_two}
use Rattle.ldi_stream.proofs.answer.write_all.Goals as goal

pub loop-at-preserved : goal.loop-at-preserved
loop-at-preserved g c =
    let fits : c.in_ok-at.field-0 ≤ length (take (length c.args.bytes.now - c.loop-at.at)
    (drop c.loop-at.at c.args.bytes.now)) = omega (arith, c.in_ok-at.ensures.count) in
    record {
      within = let f = simp (length-take, length-drop) at fits in omega arith;
      wrote = rw (take_two c.args.bytes.now c.loop-at.at c.in_ok-at.field-0 c.loop-at.invariant.within fits)
          (Appends-trans _ _ _ _ _ c.loop-at.invariant.wrote c.in_ok-at.ensures.bytes);
      counted = c.in_ok-at.ensures.counted ∙ c.loop-at.invariant.counted;
    }
