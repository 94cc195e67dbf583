use Rattle.ldmodel_project.proofs.Common.{Contents, ap, found_under, sym, ◌∙◌}
use Rattle.ldmodel_project.proofs.Found.{found_under-entries}
use Rattle.ldmodel_project.proofs.keyed_objects.KeyedObjects.found.Goals as goal

pub returns : goal.returns
returns c =
    c.get.ensures
    ∙ sym (ap (λ (k : Contents). found_under k.entries c.args.key) (sym c.self.view_is)
    ∙ found_under-entries c.self.inside.objects c.self.inside.order.items c.args.key c.self.invariant)
