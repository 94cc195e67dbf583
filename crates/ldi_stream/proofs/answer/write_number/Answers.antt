use Rattle.ldi_stream.proofs.Common.{◌∙◌}
use Rattle.ldi_stream.proofs.StreamWriting.{Writes-then, Writes-both}
use Rattle.ldi_stream.proofs.answer.write_number.Goals as goal

pub returns-clause-text : goal.returns-clause-text
returns-clause-text g c =
    let text = c.as_bytes.ensures.value ∙ c.format.ensures.text in
    Writes-then _ _ _ _ _ _ c.in_ok-write_all.ensures.ok
    (rw text at (Writes-both _ _ _ _ c.write_all-2.ensures.ok c.write_all-2.ensures.err))
