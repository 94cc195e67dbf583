use Rattle.ldmodel_project.proofs.Common.{AreNamesDistinct, Contents, List, NamedObject, ap, objects_of, subst, sym}
use Rattle.ldmodel_project.proofs.Common.{◌∙◌}
use Rattle.ldmodel_project.proofs.Places.{objects-entries}
use Rattle.ldmodel_project.proofs.keyed_objects.KeyedObjects.names_differ.Goals as goal

pub returns : goal.returns
returns c =
    subst (λ (os : List NamedObject). AreNamesDistinct os)
    (sym (objects-entries c.self.inside.objects c.self.inside.order.items)
    ∙ ap (λ (k : Contents). objects_of k.entries) c.self.view_is) c.self.invariant.names
