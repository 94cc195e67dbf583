use Rattle.ldmodel_laws.proofs.OnceInRows as once
use Rattle.ldmodel_laws.proofs.gathering.once_in_rows.Goals as goal

pub returns : goal.returns
returns c = once.once_in_rows
