use Rattle.elfobj.proofs.Common.{IsNonDecreasingBy-from_sort_by_key, Span, rules}
use Rattle.elfobj.proofs.relocation_table.in_order.Goals as goal

pub returns-clause-order : goal.returns-clause-order
returns-clause-order c =
    IsNonDecreasingBy-from_sort_by_key (λ (s : Span). s.start) _ c.sort_unstable_by_key.ensures.sorted
    (λ a r q k. search rules)
