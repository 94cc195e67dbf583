-- A spot that is refused is that of no section, or lies elsewhere.
use Rattle.emit.proofs.Common.{HasBytes, IsInFile, Progbits, Section, ap, arith, subst, sym}
use Rattle.emit.proofs.Planning.{at_index, bytes_at, has}
use Rattle.emit.proofs.plan.can_stand.Goals as goal

pub returns-then-section-spot-clause-refused : goal.returns-then-section-spot-clause-refused
returns-then-section-spot-clause-refused c = λ e can.
    let sections = c.args.object.now.sections in
    let i = c.args.spot.index.0 in
    let own = has sections i can.index in
    let d : Section = record { number = record { 0 = 0 }; kind = Progbits; flags = 0; size = 0; alignment = 0 } in
    c.fits.ensures.none e
    (λ some.
    subst (λ b. IsInFile c.args.limit b c.args.spot.range)
    (sym (bytes_at sections i c.section_bytes-bytes.result.now c.section_bytes-bytes.ensures own.section own.is))
    (can.in_file own.section own.is
    (subst (λ k. HasBytes k c.args.spot.range)
    (ap (λ (s : Section). s.kind)
    (at_index sections i d c.sections-2.result.now c.sections-2.ensures.value own.section own.is))
    some)))

pub returns-else-section-spot-clause-refused : goal.returns-else-section-spot-clause-refused
returns-else-section-spot-clause-refused c = λ e can.
    let sections = c.args.object.now.sections in
    let i = c.args.spot.index.0 in
    let own = has sections i can.index in
    let d : Section = record { number = record { 0 = 0 }; kind = Progbits; flags = 0; size = 0; alignment = 0 } in
    let size = ap (λ (s : Section). s.size)
    (at_index sections i d c.sections-2.result.now c.sections-2.ensures.value own.section own.is) in
    let end = can.end own.section own.is in
    omega (arith, c.if-section-spot.false, size, end)
