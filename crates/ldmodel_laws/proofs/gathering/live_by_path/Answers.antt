use Rattle.ldmodel_laws.proofs.Liveness as liveness
use Rattle.ldmodel_laws.proofs.gathering.live_by_path.Goals as goal

pub returns-clause-collected : goal.returns-clause-collected
returns-clause-collected c = liveness.collected

pub returns-clause-all : goal.returns-clause-all
returns-clause-all c = liveness.all_are

pub returns-clause-in_order : goal.returns-clause-in_order
returns-clause-in_order c = liveness.in_order
