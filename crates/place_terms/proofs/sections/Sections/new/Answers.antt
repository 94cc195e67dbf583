use Rattle.place_terms.proofs.Common.{earlier_of}
use Rattle.place_terms.proofs.FoundSections.{no_sections}
use Rattle.place_terms.proofs.TakenOver.{none_taken}
use Rattle.place_terms.proofs.sections.Sections.new.Goals as goal

pub invariant_of-result : goal.invariant_of-result
invariant_of-result c = (
  no_sections c.args.script.now c.in_ok-taken.taken.items c.in_ok-list.list.items c.in_ok-differences.differences.items
      c.len.result c.in_ok-taken.ensures.items c.in_ok-list.ensures.items
      (c.in_ok-differences.ensures.items_if_clones_equal (λ _ e. e)),
  none_taken (earlier_of c.args.earlier) c.in_ok-taken.taken.items c.in_ok-taken.ensures.items,
)
