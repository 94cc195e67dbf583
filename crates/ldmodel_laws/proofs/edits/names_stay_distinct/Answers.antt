use Rattle.ldmodel_laws.proofs.DistinctNames as names
use Rattle.ldmodel_laws.proofs.edits.names_stay_distinct.Goals as goal

pub returns-clause-kept : goal.returns-clause-kept
returns-clause-kept c = names.names_stay_distinct
