use Rattle.ldmodel_laws.proofs.Targeted.{same_value}
use Rattle.ldmodel_laws.proofs.targets.target_decides_value.Goals as goal

pub returns : goal.returns
returns c = same_value
