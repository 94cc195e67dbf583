use Rattle.gather.proofs.Common.{answers_always, arith, rank_self, rules}
use Rattle.gather.proofs.Numbering.{are_numbered}
use Rattle.gather.proofs.input_section_table.InputSectionTable.of.Goals as goal

pub invariant_of-result : goal.invariant_of-result
invariant_of-result c = record {
  laid = c.in_ok-laid.ensures.laid;
  sorted = c.sort_unstable_by_key.ensures.sorted rank_self (answers_always _ _ _ (λ f a r f' k. search rules));
  small = omega (arith, c.in_ok-_numbers.ensures.below, c.len.ensures);
}

pub returns : goal.returns
returns c =
    are_numbered _ c.args.project.now c.in_ok-laid.ensures.counted c.in_ok-laid.ensures.linked c.args.ranks.items
    c.requires
    c.sort_unstable_by_key.ensures.permutation
