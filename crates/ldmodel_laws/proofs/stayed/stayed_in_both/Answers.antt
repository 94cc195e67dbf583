use Rattle.ldmodel_laws.proofs.InImage as image
use Rattle.ldmodel_laws.proofs.stayed.stayed_in_both.Goals as goal

pub returns-clause-linked : goal.returns-clause-linked
returns-clause-linked c = image.linked

pub returns-clause-stayed : goal.returns-clause-stayed
returns-clause-stayed c = image.stayed_both
