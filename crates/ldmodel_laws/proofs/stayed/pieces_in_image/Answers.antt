use Rattle.ldmodel_laws.proofs.InImage as image
use Rattle.ldmodel_laws.proofs.stayed.pieces_in_image.Goals as goal

pub returns-clause-own : goal.returns-clause-own
returns-clause-own c = image.inside_image

pub returns-clause-old : goal.returns-clause-old
returns-clause-old c = image.inside_old
