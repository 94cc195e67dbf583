use Rattle.ldmodel_project.proofs.Common.{Contents, IsStaged, None, Places, Stay, objects_of, subst, ◌∙◌}
use Rattle.ldmodel_project.proofs.Arranged.{same_staged, staged}
use Rattle.ldmodel_project.proofs.keyed_objects.KeyedObjects.reserve_same.Goals as goal

pub returns-clause-staged : goal.returns-clause-staged
returns-clause-staged c =
    let places : Places = record { before = None; after = None } in
    subst (λ (k : Contents). IsStaged k (staged c.in_ok-order.order Stay places) (objects_of k.entries)) c.self.view_is
    (same_staged c.self.inside.objects c.self.inside.order.items c.in_ok-order.order c.self.invariant
    (c.in_ok-order.ensures.items ∙ c.deref.ensures.value))
