use Rattle.ldi_deferred.proofs.Common.{Part-front, Writes-cut, Writes-then, ◌∙◌}
use Rattle.ldi_stream.proofs.StreamWriting.{Writes-both}
use Rattle.ldi_deferred.proofs.answer.write_number.Goals as goal

pub returns-in_err-write_all-clause-text : goal.returns-in_err-write_all-clause-text
returns-in_err-write_all-clause-text g c =
    let text = c.as_bytes.ensures.value ∙ c.format.ensures.text in
    Writes-cut _ _ _ _ _ c.from_residual.ensures.1 (Part-front _ _ _ _ (rw text at c.in_err-write_all.ensures.err))

pub returns-clause-text : goal.returns-clause-text
returns-clause-text g c =
    let text = c.as_bytes.ensures.value ∙ c.format.ensures.text in
    Writes-then _ _ _ _ _ _ (rw text at c.in_ok-write_all.ensures.ok)
    (Writes-both _ _ _ _ c.write_all-2.ensures.ok c.write_all-2.ensures.err)
