use Rattle.symres_decisions.proofs.KnownNames.{declared_known, seen_known}
use Rattle.symres_decisions.proofs.decisions.Decisions.known.Goals as goal

pub returns-clause-complete : goal.returns-clause-complete
returns-clause-complete c = rw (← c.self.view_is) c.self.invariant.0.complete

pub returns-clause-declared : goal.returns-clause-declared
returns-clause-declared c =
    let s = c.self.inside.names in
    rw (← c.self.view_is)
    (λ name.
    declared_known s.names s.order s.objects name c.known.ensures.listing c.known.ensures.unknown)

pub returns-clause-seen : goal.returns-clause-seen
returns-clause-seen c =
    let s = c.self.inside.names in
    rw (← c.self.view_is)
    (λ place number.
    seen_known s.names s.order s.objects place number c.known.ensures.listing c.known.ensures.unknown)
