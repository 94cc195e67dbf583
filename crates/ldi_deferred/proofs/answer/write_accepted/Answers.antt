use Rattle.ldi_deferred.proofs.Common.{Writes-kept}
use Rattle.ldi_deferred.proofs.answer.write_accepted.Goals as goal

pub returns-clause-text : goal.returns-clause-text
returns-clause-text g c = Writes-kept _ _ _ _ _ c.in_ok-write_all.ensures.ok c.flush.ensures.bytes
