use Rattle.ldmodel_laws.proofs.Placements.{placed, faulty}
use Rattle.ldmodel_laws.proofs.layout.placement_by_steps.Goals as goal

pub returns-clause-placed : goal.returns-clause-placed
returns-clause-placed c = placed

pub returns-clause-faulty : goal.returns-clause-faulty
returns-clause-faulty c = faulty
