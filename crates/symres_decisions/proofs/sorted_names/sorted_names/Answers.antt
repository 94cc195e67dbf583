use Rattle.symres_decisions.proofs.Common.{ComparedName, IsPermutation, List, compared_number, map, nat_list_cmp_total}
use Rattle.symres_decisions.proofs.Common.{ranks_by, rules, subst}
use Rattle.std.proofs.lemmas.List.Sorted.{IsPermutation-map, answers_always}
use Rattle.symres_decisions.proofs.ByteOrder.{compared_up, is_first}
use Rattle.symres_decisions.proofs.Listed.{Listed}
use Rattle.symres_decisions.proofs.sorted_names.sorted_names.Goals as goal

pub returns : goal.returns
returns c =
    let list : List ComparedName = c.in_ok-list.list.items in
    let sorted : List ComparedName = c.sort_by.new.list.items in
    record {
      same = subst (λ (es : List Listed). IsPermutation es (map compared_number sorted)) c.in_ok-list.ensures
          (IsPermutation-map compared_number list sorted c.in_ok-sort_by.ensures.permutation);
      up = compared_up sorted
          (c.in_ok-sort_by.ensures.sorted is_first (ranks_by nat_list_cmp_total (λ (x : ComparedName). x.name))
          (answers_always _ _ _ (λ f a r f' k. search rules)));
    }
