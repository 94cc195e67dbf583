use Rattle.ldmodel_deferred.proofs.Beside.{asked_settled, same_with_links}
use Rattle.ldmodel_deferred.proofs.law.same_with_links.Goals as goal

pub returns-clause-replies : goal.returns-clause-replies
returns-clause-replies c = same_with_links

pub returns-clause-queries : goal.returns-clause-queries
returns-clause-queries c = asked_settled
