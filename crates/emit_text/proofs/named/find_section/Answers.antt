-- The section of a number, where numbers ascend.
use Rattle.emit_text.proofs.Common.{AllPairs, Section, subst, ◌<◌}
use Rattle.emit_text.proofs.FoundSections.{found_or_none}
use Rattle.emit_text.proofs.named.find_section.Goals as goal

pub returns-clause-is : goal.returns-clause-is
returns-clause-is c =
    let ascending = subst (AllPairs (λ (s t : Section). s.number.0 < t.number.0)) c.sections-in_order.ensures.value
    c.sections-in_order.ensures.ascending in
    found_or_none c.section_at.result c.args.object.now.sections c.args.number ascending c.section_at.ensures.found
    c.section_at.ensures.absent
