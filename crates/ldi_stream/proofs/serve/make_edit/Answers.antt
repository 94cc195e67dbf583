use Rattle.ldi_stream.proofs.StreamReplies.{reply_linked, reply_refused}
use Rattle.ldi_stream.proofs.serve.make_edit.Goals as goal

pub returns-in-Ok-clause-text : goal.returns-in-Ok-clause-text
returns-in-Ok-clause-text g c =
    (_, c.write_linked.ensures.text, reply_linked _ _ _ _ c.in-Ok.ensures.accepted c.in-Ok.ensures.linked)

pub returns-in-Err-clause-text : goal.returns-in-Err-clause-text
returns-in-Err-clause-text g c =
    (_, c.write_refused.ensures.text, reply_refused _ _ _ _ c.in-Err.ensures.refused c.in-Err.ensures.unchanged)
