use Rattle.ldi_stream.proofs.Common.{Consumes-trans, arith, err_from_is_err_and, length-append, length-drop}
use Rattle.ldi_stream.proofs.Common.{length-take, take, ◌++◌, ◌∙◌}
use Rattle.ldi_stream.proofs.payload.skip.Goals as goal

pub returns-in_err-n-clause-err : goal.returns-in_err-n-clause-err
returns-in_err-n-clause-err g c =
    let p = err_from_is_err_and c.from_residual.result c.from_residual.ensures.1 in
    let so_far = c.loop-at.invariant.read in
    let h = c.in_err-n.ensures.filled in
    let long = simp length-take at c.fill.auto.buf in
    rw p.1 (
      so_far.0 ++ take h.0 c.fill.new.buf,
      simp (length-append, length-take)
          (omega (arith, so_far.1, h.1, long)),
      Consumes-trans _ _ _ _ _ so_far.2 h.2,
    )

pub loop-at-preserved : goal.loop-at-preserved
loop-at-preserved g c =
    let so_far = c.loop-at.invariant.read in
    let h = c.in_ok-n.ensures.filled in
    let long = simp length-take at c.fill.auto.buf in
    record {
      within = omega (arith, h.0, long);
      room = simp (length-append, length-drop) (omega (arith, long));
      read = (
        so_far.0 ++ take c.in_ok-n.n c.fill.new.buf,
        simp (length-append, length-take) (omega (arith, so_far.1, h.0, long)),
        Consumes-trans _ _ _ _ _ so_far.2 h.1,
      );
      counted = c.in_ok-n.ensures.counted ∙ c.loop-at.invariant.counted;
    }

pub returns-then-n-step-clause-ok : goal.returns-then-n-step-clause-ok
returns-then-n-step-clause-ok g c =
    let so_far = c.loop-at.invariant.read in
    let h = c.in_ok-n.ensures.filled in
    let long = simp length-take at c.fill.auto.buf in (
      so_far.0 ++ take c.in_ok-n.n c.fill.new.buf,
      simp (length-append, length-take)
          (omega (arith, so_far.1, h.0, long)),
      omega (arith, h.0, long),
      Consumes-trans _ _ _ _ _ so_far.2 h.1,
      λ _. h.2 (omega (arith, long)),
    )
