use Rattle.ldmodel_project.proofs.Common.{Contents, IsStaged, None, Places, Some, ap, get_or, get_or_read, length}
use Rattle.ldmodel_project.proofs.Common.{length-map, objects_of, remove, subst, sym, ◌<◌, ◌∙◌, ◌≡◌}
use Rattle.ldmodel_project.proofs.Arranged.{removed_staged, staged}
use Rattle.ldmodel_project.specs.declared.staged.Step.TheVariants.{Remove}
use Rattle.ldmodel_project.proofs.keyed_objects.KeyedObjects.reserve_remove.Goals as goal

pub returns-clause-staged : goal.returns-clause-staged
returns-clause-staged c =
    let within : c.args.at < length c.self.inside.order.items =
    rw length-map at (subst (λ (k : Contents). c.args.at < length k.entries) (sym c.self.view_is) c.requires) in
    let key : get_or c.self.inside.order.items c.args.at 0 ≡ c.index-key.result.now =
    sym (get_or_read c.self.inside.order.items c.args.at c.index-key.result.now within c.index-key.ensures 0) in
    let places : Places = record { before = Some c.args.at; after = None } in
    subst (λ (k : Contents). IsStaged k (staged c.in_ok-order.order (Remove c.index-key.result.now) places)
    (remove (objects_of k.entries) c.args.at)) c.self.view_is
    (removed_staged c.self.inside.objects c.self.inside.order.items c.args.at c.index-key.result.now
    c.in_ok-order.order c.self.invariant within key
    (c.in_ok-order.ensures ∙ ap (λ ks. remove ks c.args.at) c.deref.ensures.value))
