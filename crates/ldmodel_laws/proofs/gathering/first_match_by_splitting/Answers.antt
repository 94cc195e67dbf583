use Rattle.ldmodel_laws.proofs.FirstMatching as matching
use Rattle.ldmodel_laws.proofs.gathering.first_match_by_splitting.Goals as goal

pub returns : goal.returns
returns c script file section = matching.first_match_is c.match_by_splitting.ensures file section script
