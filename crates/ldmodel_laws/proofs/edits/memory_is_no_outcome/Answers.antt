use Rattle.ldmodel_laws.proofs.Total as total
use Rattle.ldmodel_laws.proofs.edits.memory_is_no_outcome.Goals as goal

pub returns-clause-outer : goal.returns-clause-outer
returns-clause-outer c = total.outer_number

pub returns-clause-object : goal.returns-clause-object
returns-clause-object c = total.inner_of_object

pub returns-clause-script : goal.returns-clause-script
returns-clause-script c = total.inner_of_script
