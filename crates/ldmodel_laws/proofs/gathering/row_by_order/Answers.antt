use Rattle.ldmodel_laws.proofs.Ordering as ordering
use Rattle.ldmodel_laws.proofs.gathering.row_by_order.Goals as goal

pub returns : goal.returns
returns c = ordering.row_by_order
