use Rattle.ldmodel_laws.proofs.Renumbered as renumbered
use Rattle.ldmodel_laws.proofs.names.decided_renumbered.Goals as goal

pub returns : goal.returns
returns c = renumbered.decided_all
