use Rattle.ldmodel_laws.proofs.Untouched as untouched
use Rattle.ldmodel_laws.proofs.stayed.untouched_bytes.Goals as goal

pub returns : goal.returns
returns c = untouched.untouched
