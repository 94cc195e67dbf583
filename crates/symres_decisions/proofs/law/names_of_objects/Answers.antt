use Rattle.symres_decisions.proofs.ProjectNames.{all_names, one_object}
use Rattle.symres_decisions.proofs.law.names_of_objects.Goals as goal

pub returns-clause-all : goal.returns-clause-all
returns-clause-all c = all_names

pub returns-clause-one : goal.returns-clause-one
returns-clause-one c = one_object
