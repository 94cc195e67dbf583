use Rattle.ldscript.proofs.Common.{mark, subst}
use Rattle.ldscript.proofs.Singles.{stops_at}
use Rattle.ldscript.proofs.steps.ended.Goals as goal

pub returns-in-None : goal.returns-in-None
returns-in-None c = λ y more d.
    let e = (rw c.in-Some.is at c.in_ok-expr.ensures).only y d.0 d.1 (stops_at c.args.mark c.requires d.0 more d.2) in
    c.in-None.ensures more (subst (λ l. mark c.args.mark l more) e.1 d.2)
