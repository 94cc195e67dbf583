use Rattle.ldmodel_project.proofs.Common.{Contents, IsStaged, NamedObject, Places, Put, Some, get_or, get_or_read}
use Rattle.ldmodel_project.proofs.Common.{length, objects_of, place_of, set, subst, sym, ◌<◌, ◌∙◌, ◌≡◌}
use Rattle.ldmodel_project.proofs.Arranged.{replaced_staged, staged, place_within}
use Rattle.ldmodel_project.proofs.keyed_objects.KeyedObjects.reserve_replace.Goals as goal

pub returns-clause-staged : goal.returns-clause-staged
returns-clause-staged c =
    let o : NamedObject = record { name = c.args.name.now; object = c.args.object } in
    let places : Places = record { before = Some c.args.at; after = Some c.args.at } in
    let named : c.in_ok-named.named ≡ o = c.in_ok-named.ensures in
    let place = subst (λ (k : Contents). place_of (objects_of k.entries) c.args.name.now
    ≡ Some c.args.at) (sym c.self.view_is) c.requires.place in
    let within : c.args.at < length c.self.inside.order.items =
    place_within c.self.inside.objects c.self.inside.order.items c.args.name.now c.args.at place in
    let key : get_or c.self.inside.order.items c.args.at 0 ≡ c.index-key.result.now =
    sym (get_or_read c.self.inside.order.items c.args.at c.index-key.result.now within c.index-key.ensures 0) in
    let at_o = subst (λ (k : Contents). IsStaged k (staged c.in_ok-order.order (Put c.index-key.result.now o) places)
    (set (objects_of k.entries) c.args.at o)) c.self.view_is
    (replaced_staged c.self.inside.objects c.self.inside.order.items c.args.at c.index-key.result.now o
    c.in_ok-order.order c.self.invariant key place
    (c.in_ok-order.ensures.items ∙ c.deref.ensures.value)) in
    subst (λ (n : NamedObject).
    IsStaged c.args.self.now (staged c.in_ok-order.order (Put c.index-key.result.now n) places)
    (set (objects_of c.args.self.now.entries) c.args.at o)) (sym named) at_o
