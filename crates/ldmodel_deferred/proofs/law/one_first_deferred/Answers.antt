use Rattle.ldmodel_deferred.proofs.Cutting.{one_first}
use Rattle.ldmodel_deferred.proofs.law.one_first_deferred.Goals as goal

pub returns : goal.returns
returns c = one_first c.one_first_command.ensures
