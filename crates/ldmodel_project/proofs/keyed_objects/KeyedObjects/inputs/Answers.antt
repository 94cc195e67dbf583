use Rattle.ldmodel_project.proofs.Common.{Contents, ap, arith, length, map, named_at, objects_of, sym, take_all, ◌∙◌}
use Rattle.ldmodel_project.proofs.Common.{◌≡◌, ◌≤◌}
use Rattle.ldmodel_project.proofs.Places.{objects-entries}
use Rattle.ldmodel_project.proofs.keyed_objects.KeyedObjects.inputs.Goals as goal

pub returns : goal.returns
returns c =
    let slots = c.self.inside.objects in
    let order = c.self.inside.order.items in
    let there : c.deref-key-items.result.now ≡ order = c.deref-key-items.ensures.value in
    let same : length c.deref-key-items.result.now ≡ length order = ap length there in
    let all : length order ≤ c.loop-key.key-index = omega arith in
    c.loop-key.invariant
    ∙ (ap (map (named_at slots)) (take_all c.loop-key.key-index order all)
    ∙ (sym (objects-entries slots order) ∙ ap (λ (k : Contents). objects_of k.entries) c.self.view_is))
