use Rattle.ldmodel_laws.proofs.Total as total
use Rattle.ldmodel_laws.proofs.edits.some_outcome.Goals as goal

pub returns-clause-objects : goal.returns-clause-objects
returns-clause-objects c = total.outcome

pub returns-clause-all : goal.returns-clause-all
returns-clause-all c = total.some_outcome
