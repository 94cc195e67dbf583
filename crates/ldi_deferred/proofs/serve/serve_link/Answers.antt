use Rattle.ldi_deferred.proofs.DeferredReplies.{reply_linked, reply_unlinked}
use Rattle.ldi_deferred.proofs.serve.serve_link.Goals as goal

pub returns-in-Ok-clause-text : goal.returns-in-Ok-clause-text
returns-in-Ok-clause-text g c = λ sent. (
  _,
  c.write_linked.ensures.text,
  reply_linked _ _ _ _ sent _ c.in-Ok.ensures.project c.in-Ok.ensures.last c.in-Ok.ensures.linked,
)

pub returns-in-Err-clause-text : goal.returns-in-Err-clause-text
returns-in-Err-clause-text g c = λ sent. (
  _,
  c.write_refused.ensures.text,
  reply_unlinked _ _ _ _ sent c.in-Err.ensures.project c.in-Err.ensures.unlinked,
)
