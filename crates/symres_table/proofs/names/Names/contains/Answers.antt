use Rattle.symres_table.proofs.Joined.{has_object, fresh_object}
use Rattle.symres_table.proofs.names.Names.contains.Goals as goal

pub returns-clause-entered : goal.returns-clause-entered
returns-clause-entered c = λ h.
    rw (← c.self.view_is)
    (has_object c.self.inside.known.slots c.self.inside.objects.objects c.args.object.0 (c.contains.ensures.entered h))

pub returns-clause-fresh : goal.returns-clause-fresh
returns-clause-fresh c = λ h.
    rw (← c.self.view_is)
    (fresh_object c.self.inside.known.slots c.self.inside.objects.objects c.args.object.0 (c.contains.ensures.fresh h))
