use Rattle.ldmodel_project.proofs.Common.{Contents, NamedObject, Option, ap, arith, count_by, key_count, named_under}
use Rattle.ldmodel_project.proofs.Common.{nat_eq, subst, sym, unnamed, unwrap_or, ◌<◌, ◌∙◌}
use Rattle.ldmodel_project.proofs.Keys.{key_count-entries, named_under-entries}
use Rattle.ldmodel_project.proofs.keyed_objects.KeyedObjects.named.Goals as goal

pub returns : goal.returns
returns c =
    let listed = subst (λ (k : Contents). 0 < key_count k.entries c.args.key) (sym c.self.view_is) c.requires in
    let count : 0 < count_by (nat_eq c.args.key) c.self.inside.order.items =
    omega (arith, listed, key_count-entries c.self.inside.objects c.self.inside.order.items c.args.key) in
    sym (ap (λ (k : Contents). named_under k.entries c.args.key) (sym c.self.view_is)
    ∙ (named_under-entries c.self.inside.objects c.self.inside.order.items c.args.key count
    ∙ ap (λ (o : Option NamedObject). unwrap_or o unnamed) c.index.ensures))
