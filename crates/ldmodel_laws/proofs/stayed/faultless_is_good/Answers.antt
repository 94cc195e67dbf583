use Rattle.ldmodel_laws.proofs.Goodness as goodness
use Rattle.ldmodel_laws.proofs.stayed.faultless_is_good.Goals as goal

pub returns : goal.returns
returns c = goodness.is_good
