use Rattle.symres_decisions.proofs.Common.{IsTextOf, List, Option, subst}
use Rattle.symres_decisions.proofs.ByteOrder.{text_forgotten}
use Rattle.symres_decisions.proofs.Listed.{Listed}
use Rattle.symres_decisions.proofs.kept_text.without_forgotten.Goals as goal

pub returns : goal.returns
returns c = λ before listing f h.
    text_forgotten before c.args.names.now c.in_ok-text.text c.keep_known.new.self listing f c.keep_known.ensures
    (subst (λ (t : Option (List Listed)). IsTextOf before t) c.in_ok-text.was h)
