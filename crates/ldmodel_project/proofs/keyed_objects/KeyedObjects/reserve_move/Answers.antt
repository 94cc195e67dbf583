use Rattle.ldmodel_project.proofs.Common.{Contents, IsStaged, List, Listed, NamedObject, Places, Some, ap, arith}
use Rattle.ldmodel_project.proofs.Common.{entry_at, get_or, get_or_read, insert, length, length-map, map, objects_of}
use Rattle.ldmodel_project.proofs.Common.{remove, subst, sym, unnamed, ℕ, ◌<◌, ◌∙◌, ◌≡◌, ◌≤◌}
use Rattle.std.proofs.lemmas.List.Edits.{length-remove}
use Rattle.ldmodel_project.proofs.Arranged.{moved_staged, staged}
use Rattle.ldmodel_project.proofs.Places.{objects_shown}
use Rattle.ldmodel_project.specs.declared.staged.Step.TheVariants.{Move}
use Rattle.ldmodel_project.proofs.keyed_objects.KeyedObjects.reserve_move.Goals as goal

pub returns-clause-staged : goal.returns-clause-staged
returns-clause-staged c =
    let within : c.args.from < length c.self.inside.order.items =
    rw length-map at (subst (λ (k : Contents). c.args.from < length k.entries) (sym c.self.view_is) c.requires.from) in
    let key : get_or c.self.inside.order.items c.args.from 0 ≡ c.index-key.result.now =
    sym (get_or_read c.self.inside.order.items c.args.from c.index-key.result.now within c.index-key.ensures 0) in
    let order : List ℕ = c.self.inside.order.items in
    let objects : List NamedObject = objects_shown c.self.inside.objects order in
    let long : length objects ≡ length order =
    length-map (map (entry_at c.self.inside.objects) order) (λ (e : Listed). e.named)
    ∙ length-map order (entry_at c.self.inside.objects) in
    let there : c.args.to ≤ length (remove objects c.args.from) =
    subst (λ (k : Contents). c.args.to ≤ length (remove (objects_of k.entries) c.args.from)) (sym c.self.view_is)
    c.requires.to in
    let goes : c.args.to ≤ length (remove order c.args.from) =
    omega (arith, length-remove objects c.args.from (omega (arith, long)), length-remove order c.args.from within) in
    let places : Places = record { before = Some c.args.from; after = Some c.args.to } in
    subst (λ (k : Contents). IsStaged k (staged c.in_ok-order.order (Move c.index-key.result.now) places)
    (insert (remove (objects_of k.entries) c.args.from) c.args.to (get_or (objects_of k.entries) c.args.from unnamed)))
    c.self.view_is
    (moved_staged c.self.inside.objects c.self.inside.order.items c.args.from c.args.to
    c.index-key.result.now c.in_ok-order.order c.self.invariant within key
    goes
    (c.in_ok-order.ensures
    ∙ (ap (λ ks. insert (remove ks c.args.from) c.args.to (get_or ks c.args.from 0)) c.deref.ensures.value
    ∙ ap (insert (remove c.self.inside.order.items c.args.from) c.args.to) key)))
