use Rattle.ldmodel_laws.proofs.Apart as apart
use Rattle.ldmodel_laws.proofs.image.fields_are_apart.Goals as goal

pub returns-clause-apart : goal.returns-clause-apart
returns-clause-apart c = apart.fields_apart

pub returns-clause-within : goal.returns-clause-within
returns-clause-within c = apart.fields_within
