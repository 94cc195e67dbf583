use Rattle.ldmodel_laws.proofs.StayedSites as stays
use Rattle.ldmodel_laws.proofs.stayed.retargeted_in_index.Goals as goal

pub returns : goal.returns
returns c = stays.retargeted_in_index
