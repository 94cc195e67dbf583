use Rattle.ldmodel_project.proofs.Common.{AreKeysDistinct, List, subst, ℕ}
use Rattle.ldmodel_project.proofs.order.Order.keys.Goals as goal

pub returns-clause-distinct : goal.returns-clause-distinct
returns-clause-distinct c = subst (λ (keys : List ℕ). AreKeysDistinct keys) c.self.view_is c.self.invariant.0
