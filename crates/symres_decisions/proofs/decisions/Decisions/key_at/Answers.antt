use Rattle.symres_decisions.proofs.OneName.{named_there}
use Rattle.symres_decisions.proofs.decisions.Decisions.key_at.Goals as goal

pub returns-clause-case : goal.returns-clause-case
returns-clause-case c =
    let s = c.self.inside.names in
    rw (← c.self.view_is)
    (c.self.invariant.0.complete c.key_at.result.0
    (named_there s.names s.objects c.args.place.0 c.args.symbol.0 c.key_at.result.0 c.key_at.ensures))
