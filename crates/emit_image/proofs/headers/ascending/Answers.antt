use Rattle.emit_image.proofs.Common.{IsStrictWeakOrder, ap, nat_cmp_total, rules, sort_by, starts_before, ◌∙◌}
use Rattle.std.proofs.lemmas.List.Sorted.{ranks_by, answers_always}
use Rattle.ldmodel.specs.declared.segment.Segment.{Segment}
use Rattle.ldmodel_laws.proofs.Ordering.{ordered_once}
use Rattle.emit_image.proofs.headers.ascending.Goals as goal

pub returns : goal.returns
returns c =
    let order : IsStrictWeakOrder starts_before = ranks_by nat_cmp_total (λ (g : Segment). g.start) in
    (ordered_once starts_before order _ _).0 (record {
      sorted = c.in_ok-sort_by.ensures.sorted starts_before order (answers_always _ _ _ (λ f a r f' k. search rules));
      stable = c.in_ok-sort_by.ensures.stable starts_before order (answers_always _ _ _ (λ f a r f' k. search rules));
    }) ∙ ap (λ xs. sort_by starts_before xs) c.in_ok-sorted.ensures.items
