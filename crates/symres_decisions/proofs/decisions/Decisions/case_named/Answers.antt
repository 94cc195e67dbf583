use Rattle.symres_decisions.proofs.Common.{inl, inr, sym, ◌∙◌}
use Rattle.symres_decisions.proofs.OneName.{some_case}
use Rattle.symres_decisions.proofs.decisions.Decisions.case_named.Goals as goal

pub unwrap-requires : goal.unwrap-requires
unwrap-requires c =
    some_case c.self.inside.cases c.in-Some.key.0 c.get.result c.get.ensures
    (c.self.invariant.0.complete c.in-Some.key.0 (c.args.name.now, c.in-Some.ensures.known))

pub returns-in-Some-clause-case : goal.returns-in-Some-clause-case
returns-in-Some-clause-case c =
    rw (← c.self.view_is)
    (λ kept.
    (kept c.in-Some.key.0 c.unwrap.result (sym c.get.ensures ∙ c.unwrap.ensures)).case c.args.name.now
    c.in-Some.ensures.known)

pub returns-in-Some-clause-found : goal.returns-in-Some-clause-found
returns-in-Some-clause-found c =
    rw (← c.self.view_is)
    (inl (c.in-Some.key.0, c.in-Some.ensures.known, sym c.get.ensures ∙ c.unwrap.ensures))

pub returns-in-None-clause-found : goal.returns-in-None-clause-found
returns-in-None-clause-found c =
    rw (← c.self.view_is)
    (inr (c.in-None.ensures.unknown, c.given_case.ensures))
