use Rattle.ldi.proofs.deferred_command.deferred_session.Goals as goal

pub returns-clause-answers : goal.returns-clause-answers
returns-clause-answers g c =
    rw c.in_ok-session.ensures at
    (rw (c.deferred-linker.ensures.project, c.deferred-linker.ensures.last) at c.answer-ended.ensures.answers)

pub returns-clause-ran : goal.returns-clause-ran
returns-clause-ran g c =
    rw c.in_ok-session.ensures at
    (rw (c.deferred-linker.ensures.project, c.deferred-linker.ensures.last) at c.answer-ended.ensures.ran)
