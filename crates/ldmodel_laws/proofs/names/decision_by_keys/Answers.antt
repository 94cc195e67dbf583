use Rattle.ldmodel_laws.proofs.Renumbered as renumbered
use Rattle.ldmodel_laws.proofs.names.decision_by_keys.Goals as goal

pub returns : goal.returns
returns c number p tables name h = renumbered.decision_all number p name tables h
