use Rattle.elfobj.proofs.Common.{IsNonDecreasingBy-from_sort_by_key, field_ends, rules}
use Rattle.elfobj.specs.declared.relocation_run.SectionTable.{SectionTable}
use Rattle.elfobj.proofs.relocation_fault.smallest_first.Goals as goal

pub returns-clause-order : goal.returns-clause-order
returns-clause-order c =
    IsNonDecreasingBy-from_sort_by_key
    (λ (t : SectionTable). field_ends t.section) _ c.sort_unstable_by_key.ensures.sorted (λ a r q k. search rules)
