use Rattle.ldscript.proofs.Items.{discard_reads, discard_none}
use Rattle.ldscript.proofs.read_item.discard.Goals as goal

pub returns-in-Some : goal.returns-in-Some
returns-in-Some c = discard_reads _ _ c.in-Some.ensures (λ x. x.0) (λ x. x.1) _ c.inputs.ensures

pub returns-in-None : goal.returns-in-None
returns-in-None c = discard_none _ c.in-None.ensures
