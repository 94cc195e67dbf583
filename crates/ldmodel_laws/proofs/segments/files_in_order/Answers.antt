use Rattle.ldmodel_laws.proofs.FileOrder as order
use Rattle.ldmodel_laws.proofs.segments.files_in_order.Goals as goal

pub returns : goal.returns
returns c = order.files_in_order
