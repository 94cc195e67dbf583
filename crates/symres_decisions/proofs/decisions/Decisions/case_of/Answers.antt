use Rattle.symres_decisions.proofs.decisions.Decisions.case_of.Goals as goal

pub returns-clause-complete : goal.returns-clause-complete
returns-clause-complete c = rw (← c.self.view_is) (c.self.invariant.0.complete c.args.name.0)

pub returns-clause-named : goal.returns-clause-named
returns-clause-named c = rw (← c.self.view_is) (c.self.invariant.0.only c.args.name.0)
