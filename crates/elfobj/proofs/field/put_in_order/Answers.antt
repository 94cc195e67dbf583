use Rattle.elfobj.proofs.Common.{IsNonDecreasingBy-from_sort_by_key, Relocation, rules}
use Rattle.elfobj.proofs.field.put_in_order.Goals as goal

pub returns-clause-order : goal.returns-clause-order
returns-clause-order c =
    IsNonDecreasingBy-from_sort_by_key (λ (r : Relocation). r.offset) _ c.sort_unstable_by_key.ensures.sorted
    (λ a r q k. search rules)
