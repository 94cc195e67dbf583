use Rattle.symres_decisions.proofs.Distinct.{appended_more}
use Rattle.symres_decisions.proofs.law.distinct_more.Goals as goal

pub returns : goal.returns
returns c = appended_more
