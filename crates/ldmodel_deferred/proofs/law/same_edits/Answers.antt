use Rattle.ldmodel_deferred.proofs.Beside as beside
use Rattle.ldmodel_deferred.proofs.law.same_edits.Goals as goal

pub returns : goal.returns
returns c = beside.same_edits
