use Rattle.ldmodel_project.proofs.Common.{Contents, ap, arith, objects_of, slice_get, sym, ◌∙◌}
use Rattle.ldmodel_project.proofs.Found.{object_at, object_past}
use Rattle.ldmodel_project.proofs.keyed_objects.KeyedObjects.named_at.Goals as goal

pub returns-then-place-len : goal.returns-then-place-len
returns-then-place-len c =
    sym (ap (λ (k : Contents). slice_get (objects_of k.entries) c.args.place) (sym c.self.view_is)
    ∙ object_at c.self.inside.objects c.self.inside.order.items c.args.place c.index.result.now
    c.index-then-place-len.result.now (omega arith) c.index.ensures c.index-then-place-len.ensures)

pub returns-else-place-len : goal.returns-else-place-len
returns-else-place-len c =
    sym (ap (λ (k : Contents). slice_get (objects_of k.entries) c.args.place) (sym c.self.view_is)
    ∙ object_past c.self.inside.objects c.self.inside.order.items c.args.place (omega arith))
