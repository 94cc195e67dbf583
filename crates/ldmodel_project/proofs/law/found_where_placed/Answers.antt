use Rattle.ldmodel_project.proofs.Found.{found-placed}
use Rattle.ldmodel_project.proofs.law.found_where_placed.Goals as goal

pub returns : goal.returns
returns c entries key = found-placed entries key
