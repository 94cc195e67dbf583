use Rattle.ldmodel_laws.proofs.Agreeing as agreeing
use Rattle.ldmodel_laws.proofs.values.values_agree.Goals as goal

pub returns : goal.returns
returns c = agreeing.values_agree
