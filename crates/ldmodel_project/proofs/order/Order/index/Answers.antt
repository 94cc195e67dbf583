use Rattle.ldmodel_project.proofs.Common.{AreKeysDistinct, List, subst, sym, ℕ}
use Rattle.ldmodel_project.proofs.order.Order.index.Goals as goal

pub places_of-requires : goal.places_of-requires
places_of-requires c =
    subst (λ (keys : List ℕ). AreKeysDistinct keys) (sym c.deref.ensures.value) c.self.invariant.0
