use Rattle.ldmodel_project.proofs.Common.{AreKeysDistinct, List, subst, sym, ℕ}
use Rattle.ldmodel_project.proofs.order.Order.of.Goals as goal

pub invariant_of-result : goal.invariant_of-result
invariant_of-result c =
    (subst (λ (keys : List ℕ). AreKeysDistinct keys) (sym c.in_ok-keys.ensures.items) c.requires, tt)
