use Rattle.symres_decisions.proofs.Tables.{undone_is}
use Rattle.symres_decisions.proofs.change.undone.Goals as goal

pub returns : goal.returns
returns c = undone_is
