use Rattle.ldi_stream.proofs.Common.{Appends-trans, answer_line}
use Rattle.ldi_stream.proofs.StreamWriting.{Part-front, Part-then, Writes-cut, Writes-kept}
use Rattle.ldi_stream.proofs.answer.write_answer.Goals as goal

pub returns-in_err-write_all-clause-text : goal.returns-in_err-write_all-clause-text
unfolding answer_line
returns-in_err-write_all-clause-text g c =
    Writes-cut _ _ _ _ _ c.from_residual.ensures.1 (Part-front _ _ _ _ c.in_err-write_all.ensures.err)

pub returns-in_err-write_number-clause-text : goal.returns-in_err-write_number-clause-text
unfolding answer_line
returns-in_err-write_number-clause-text g c =
    Writes-cut _ _ _ _ _ c.from_residual-in_err-write_number.ensures.1
    (Part-then _ _ _ _ _ c.in_ok-write_all.ensures.ok (Part-front _ _ _ _ c.in_err-write_number.ensures.text))

pub returns-in_err-write_number-2-clause-text : goal.returns-in_err-write_number-2-clause-text
unfolding answer_line
returns-in_err-write_number-2-clause-text g c =
    Writes-cut _ _ _ _ _ c.from_residual-in_err-write_number-2.ensures.1
    (Part-then _ _ _ _ _ c.in_ok-write_all.ensures.ok
    (Part-then _ _ _ _ _ c.in_ok-write_number.ensures.text (Part-front _ _ _ _ c.in_err-write_number-2.ensures.text)))

pub returns-in_err-write_all-2-clause-text : goal.returns-in_err-write_all-2-clause-text
unfolding answer_line
returns-in_err-write_all-2-clause-text g c =
    Writes-cut _ _ _ _ _ c.from_residual-in_err-write_all-2.ensures.1
    (Part-then _ _ _ _ _ c.in_ok-write_all.ensures.ok
    (Part-then _ _ _ _ _ c.in_ok-write_number.ensures.text
    (Part-then _ _ _ _ _ c.in_ok-write_number-2.ensures.text c.in_err-write_all-2.ensures.err)))

pub returns-clause-text : goal.returns-clause-text
unfolding answer_line
returns-clause-text g c =
    Writes-kept _ _ _ _ _
    (Appends-trans _ _ _ _ _ c.in_ok-write_all.ensures.ok
    (Appends-trans _ _ _ _ _ c.in_ok-write_number.ensures.text
    (Appends-trans _ _ _ _ _ c.in_ok-write_number-2.ensures.text c.in_ok-write_all-2.ensures.ok)))
    c.flush.ensures.bytes
