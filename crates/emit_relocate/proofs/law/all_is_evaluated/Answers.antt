use Rattle.emit_relocate.proofs.Renewing.{all_filled}
use Rattle.emit_relocate.proofs.law.all_is_evaluated.Goals as goal

pub returns : goal.returns
returns c = λ old l range a b h nothing. all_filled old l range nothing a b h
