use Rattle.ldmodel_laws.proofs.Small as small
use Rattle.ldmodel_laws.proofs.values.value_is_small.Goals as goal

pub returns : goal.returns
returns c = small.value_is_small
