-- The section at the likely index, where it has the number.
use Rattle.emit.proofs.Common.{rules, sym}
use Rattle.emit.proofs.OfRows.{numbered_near}
use Rattle.emit.proofs.pieces.section_near.Goals as goal

pub returns-then-section-number-clause-found : goal.returns-then-section-number-clause-found
returns-then-section-number-clause-found c =
    numbered_near c.args.object.now.sections c.sections.result.now c.args.number c.args.hint c.in-Some.section.now
    c.sections.ensures.value (search (rules, sym c.in-Some.ensures.lookup.0)) c.in-Some.ensures.lookup.1
    c.if-section-number.true
