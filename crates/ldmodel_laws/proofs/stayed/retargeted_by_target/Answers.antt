use Rattle.ldmodel_laws.proofs.Untouched as untouched
use Rattle.ldmodel_laws.proofs.stayed.retargeted_by_target.Goals as goal

pub returns : goal.returns
returns c = untouched.other_target
