use Rattle.ldmodel_deferred.proofs.Beside as beside
use Rattle.ldmodel_deferred.proofs.law.all_is_new.Goals as goal

pub returns : goal.returns
returns c = beside.all_is_new
