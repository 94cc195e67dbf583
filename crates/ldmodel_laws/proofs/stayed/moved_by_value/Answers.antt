use Rattle.ldmodel_laws.proofs.Unmoved as unmoved
use Rattle.ldmodel_laws.proofs.stayed.moved_by_value.Goals as goal

pub returns-clause-one : goal.returns-clause-one
returns-clause-one c = unmoved.by_value

pub returns-clause-all : goal.returns-clause-all
returns-clause-all c = unmoved.kept_by_test
