use Rattle.ldmodel_deferred.proofs.Beside as beside
use Rattle.ldmodel_deferred.proofs.law.asked_when_settled.Goals as goal

pub returns : goal.returns
returns c = beside.asked_when_settled
