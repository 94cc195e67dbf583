use Rattle.emit.proofs.Faults.{still_none}
use Rattle.emit.proofs.rewritten.rewritten_faults.Goals as goal

pub returns : goal.returns
returns c = λ p q s i b h frame at_i none own. still_none p q s i b h frame at_i none own
