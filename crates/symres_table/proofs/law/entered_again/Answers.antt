use Rattle.symres_table.proofs.Reentering.{again}
use Rattle.symres_table.proofs.law.entered_again.Goals as goal

pub returns : goal.returns
returns c = again
