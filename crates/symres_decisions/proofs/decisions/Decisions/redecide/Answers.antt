use Rattle.symres_decisions.proofs.Common.{refl}
use Rattle.symres_decisions.proofs.Changed.{places_after}
use Rattle.symres_decisions.proofs.decisions.Decisions.redecide.Goals as goal

pub decide_all-requires-clause-room : goal.decide_all-requires-clause-room
decide_all-requires-clause-room c =
    places_after c.self.inside.names c.self.inside.names c.self.inside.cases c.self.inside.cases refl
    c.self.invariant.0.complete refl

pub invariant_of-self : goal.invariant_of-self
invariant_of-self c = (
  record {
    complete = c.decide_all.ensures.complete;
    only = λ k has. (c.decide_all.ensures.sound k has.0 has.1).named;
  },
  c.self.invariant.1,
  c.self.invariant.2,
)
