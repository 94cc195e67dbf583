use Rattle.ldmodel_laws.proofs.Unmoved as unmoved
use Rattle.ldmodel_laws.proofs.stayed.unmoved_sites.Goals as goal

pub returns-clause-same : goal.returns-clause-same
returns-clause-same c = unmoved.same_field

pub returns-clause-found : goal.returns-clause-found
returns-clause-found c = unmoved.field_stays
