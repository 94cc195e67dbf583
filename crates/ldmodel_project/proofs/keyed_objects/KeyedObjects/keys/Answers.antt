use Rattle.ldmodel_project.proofs.Common.{Contents, List, ap, count_by, keys_of, named_at, nat_eq, subst, sym, ℕ, ◌∙◌}
use Rattle.ldmodel_project.proofs.Common.{◌≤◌}
use Rattle.ldmodel_project.proofs.Arranged.{listed_once}
use Rattle.ldmodel_project.proofs.Touching.{keys-map}
use Rattle.ldmodel_project.proofs.keyed_objects.KeyedObjects.keys.Goals as goal

pub returns-clause-value : goal.returns-clause-value
returns-clause-value c =
    c.deref.ensures.value
    ∙ sym (ap (λ (k : Contents). keys_of k.entries) (sym c.self.view_is)
    ∙ keys-map (named_at c.self.inside.objects) c.self.inside.order.items)

pub returns-clause-distinct : goal.returns-clause-distinct
returns-clause-distinct c key =
    subst (λ (keys : List ℕ). count_by (nat_eq key) keys ≤ 1) (sym c.deref.ensures.value)
    (listed_once c.self.inside.objects c.self.inside.order.items key c.self.invariant)
