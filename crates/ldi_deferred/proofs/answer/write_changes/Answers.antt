use Rattle.ldi_deferred.proofs.Common.{Appends-trans, Part-front, Part-then, Writes-cut, Writes-kept}
use Rattle.ldmodel_deferred.specs.Changes.{changes_answer}
use Rattle.ldi_deferred.proofs.answer.write_changes.Goals as goal

pub returns-in_err-write_answer-clause-text : goal.returns-in_err-write_answer-clause-text
unfolding changes_answer
returns-in_err-write_answer-clause-text g c =
    Writes-cut _ _ _ _ _ c.from_residual.ensures.1 (Part-front _ _ _ _ c.in_err-write_answer.ensures.text)

pub returns-in_err-write_lines-clause-text : goal.returns-in_err-write_lines-clause-text
unfolding changes_answer
returns-in_err-write_lines-clause-text g c =
    Writes-cut _ _ _ _ _ c.from_residual-in_err-write_lines.ensures.1
    (Part-then _ _ _ _ _ c.in_ok-write_answer.ensures.text (Part-front _ _ _ _ c.in_err-write_lines.ensures.text))

pub returns-in_err-write_contents-clause-text : goal.returns-in_err-write_contents-clause-text
unfolding changes_answer
returns-in_err-write_contents-clause-text g c =
    Writes-cut _ _ _ _ _ c.from_residual-in_err-write_contents.ensures.1
    (Part-then _ _ _ _ _ c.in_ok-write_answer.ensures.text
    (Part-then _ _ _ _ _ c.in_ok-write_lines.ensures.text c.in_err-write_contents.ensures.text))

pub returns-clause-text : goal.returns-clause-text
unfolding changes_answer
returns-clause-text g c =
    Writes-kept _ _ _ _ _
    (Appends-trans _ _ _ _ _ c.in_ok-write_answer.ensures.text
    (Appends-trans _ _ _ _ _ c.in_ok-write_lines.ensures.text c.in_ok-write_contents.ensures.text))
    c.flush.ensures.bytes
