use Rattle.symres_table.proofs.Common.{[], ap, rooms, vec_capacity, ◌++◌, ◌∙◌, ◌∷◌}
use Rattle.symres_table.proofs.ListSetAside.{rooms_push}
use Rattle.symres_table.proofs.lists.park.Goals as goal

pub returns-clause-same : goal.returns-clause-same
returns-clause-same c = (
  vec_capacity c.in_ok-list.list ∷ [],
  ap rooms (c.push_reserved.ensures.items ∙ ap (λ l. l ++ c.in_ok-list.list ∷ []) c.reserve.ensures.items)
      ∙ rooms_push c.args.spare.now.items c.in_ok-list.list,
)
