use Rattle.ldmodel_laws.proofs.AlikeScripts as scripts
use Rattle.ldmodel_laws.proofs.layout.placements_alike.Goals as goal

pub returns : goal.returns
returns c = scripts.placements_alike
