-- The section at the likely place, where it has the number.
use Rattle.emit_text.proofs.Common.{rules, sym}
use Rattle.emit_text.proofs.FoundSections.{found_at}
use Rattle.emit_text.proofs.named.find_section_near.Goals as goal

pub returns-then-section-number-clause-is : goal.returns-then-section-number-clause-is
returns-then-section-number-clause-is c =
    found_at c.args.object.now.sections c.sections.result.now c.args.number c.args.likely c.in-Some.section.now
    c.sections.ensures.value c.sections.ensures.ascending (search (rules, sym c.in-Some.ensures.lookup.0))
    c.in-Some.ensures.lookup.1
    c.if-section-number.true
