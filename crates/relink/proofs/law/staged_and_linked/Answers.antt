use Rattle.relink.proofs.DeferredCounts.{staged_and_linked}
use Rattle.relink.proofs.law.staged_and_linked.Goals as goal

pub returns : goal.returns
returns c = staged_and_linked
