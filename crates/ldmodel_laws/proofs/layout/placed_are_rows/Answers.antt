use Rattle.ldmodel_laws.proofs.OwnRows as own
use Rattle.ldmodel_laws.proofs.layout.placed_are_rows.Goals as goal

pub returns : goal.returns
returns c = own.placed_are_rows
