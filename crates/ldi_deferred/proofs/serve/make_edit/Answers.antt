use Rattle.ldmodel_deferred.specs.Answers.{accepted}
use Rattle.ldi_deferred.proofs.DeferredReplies.{reply_refused}
use Rattle.ldi_deferred.proofs.serve.make_edit.Goals as goal

pub returns-in-Ok-clause-text : goal.returns-in-Ok-clause-text
returns-in-Ok-clause-text g c = (_, c.write_accepted.ensures.text, accepted _ c.in-Ok.ensures.accepted)

pub returns-in-Err-clause-text : goal.returns-in-Err-clause-text
returns-in-Err-clause-text g c =
    (_, c.write_refused.ensures.text, reply_refused _ _ _ _ c.in-Err.ensures.refused c.in-Err.ensures.unchanged)
