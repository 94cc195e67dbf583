use Rattle.ldi_stream.proofs.Common.{Consumes-trans, [], arith, inr, length, length-append, length-take, take, ◌++◌}
use Rattle.ldi_stream.proofs.Common.{◌<◌, ◌∙◌, ◌∷◌}
use Rattle.ldi_stream.proofs.StreamLines.{NoFeed-more, take_set}
use Rattle.ldi_stream.proofs.line.read_line.Goals as goal

pub loop-at-preserved : goal.loop-at-preserved
loop-at-preserved g c =
    let short : c.loop-at.at < length c.loop-at.line = omega arith in
    let same = take_set c.loop-at.line c.loop-at.at c.in-Some.byte short in
    record {
      within = omega arith;
      read = rw same (Consumes-trans _ _ _ _ _ c.loop-at.invariant.read (rw c.in-Some.is at c.in_ok-byte.ensures.read));
      no_feed = rw same (NoFeed-more _ _ c.loop-at.invariant.no_feed c.if-byte-eq10.false);
      counted = c.in_ok-byte.ensures.counted ∙ c.loop-at.invariant.counted;
    }

pub returns-then-at-eq-MAX_LINE-clause-read : goal.returns-then-at-eq-MAX_LINE-clause-read
returns-then-at-eq-MAX_LINE-clause-read g c =
    let line = take c.loop-at.at c.loop-at.line in
    let long : 512 < length (line ++ c.in-Some.byte ∷ []) = simp (length-append, length-take) (omega arith) in (
      line ++ c.in-Some.byte ∷ [],
      omega (arith, long),
      NoFeed-more _ _ c.loop-at.invariant.no_feed c.if-byte-eq10.false,
      Consumes-trans _ _ _ _ _ c.loop-at.invariant.read (rw c.in-Some.is at c.in_ok-byte.ensures.read),
      inr long,
    )
