use Rattle.ldmodel_project.proofs.Common.{AreKeysDistinct, List, Listing, ap, count_by, keys_of, nat_eq, next_named}
use Rattle.ldmodel_project.proofs.Common.{subst, sym, ℕ, ◌∙◌, ◌≤◌}
use Rattle.ldmodel_project.proofs.Found.{next_distinct}
use Rattle.ldmodel_project.proofs.Touching.{keys-map}
use Rattle.ldmodel_project.proofs.project.Next.keys.Goals as goal

pub returns-clause-value : goal.returns-clause-value
returns-clause-value c =
    let staged = c.self.inside.staged.now.objects in
    c.deref.ensures.value
    ∙ sym (ap (λ (l : Listing). keys_of l.entries) (sym c.self.view_is)
    ∙ keys-map (next_named c.self.inside.project.now.contents.entries staged.step) staged.order.items)

pub returns-clause-distinct : goal.returns-clause-distinct
returns-clause-distinct c key =
    subst (λ (keys : List ℕ). count_by (nat_eq key) keys ≤ 1) (sym c.deref.ensures.value)
    (next_distinct c.self.inside.project.now.contents c.self.inside.staged.now.objects c.self.invariant
    (subst (λ (keys : List ℕ). AreKeysDistinct keys) c.keys-kept.ensures.value c.keys-kept.ensures.distinct) key)
