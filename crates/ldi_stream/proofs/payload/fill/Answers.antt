use Rattle.ldi_stream.proofs.Common.{Consumes-trans, arith, drop, length, length-drop, length-take, take, ◌-◌, ◌∙◌, ◌≡◌}
use Rattle.ldi_stream.proofs.Common.{◌≤◌}
use borrow.Rule.Slice.PartMut.{same_len_mid}
use Rattle.ldi_stream.proofs.StreamLines.{put_front}
use Rattle.ldi_stream.proofs.payload.fill.Goals as goal

pub loop-at-preserved : goal.loop-at-preserved
loop-at-preserved g c =
    let buf = c.loop-at.buf in
    let at = c.loop-at.at in
    let long : length (take (length buf - at) (drop at buf)) ≡ length buf - at = simp (length-take, length-drop)
    (omega arith) in
    let same : length c.read.new.buf ≡ length buf - at = c.read.auto.buf ∙ long in
    let fits : c.in_ok-n.n ≤ length c.read.new.buf = omega (arith, c.in_ok-n.ensures.count) in
    record {
      within = rw (same_len_mid at (length buf - at) buf c.read.new.buf c.read.auto.buf) (omega arith);
      read = rw (put_front buf c.read.new.buf at c.in_ok-n.n c.loop-at.invariant.within fits)
          (Consumes-trans _ _ _ _ _ c.loop-at.invariant.read c.in_ok-n.ensures.bytes.0);
      counted = c.in_ok-n.ensures.counted ∙ c.loop-at.invariant.counted;
    }
