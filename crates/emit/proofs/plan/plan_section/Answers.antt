use Rattle.emit.proofs.Common.{Fields, HasBytes, IsInFile, IsRefused, ObjectData, Progbits, Section, ap, arith}
use Rattle.emit.proofs.Common.{evaluations, length, raised, slice_get, subst, sym, written, ◌∙◌}
use Rattle.emit.proofs.Planning.{at_index, bytes_at, has, order_of, planned_at, sites_at_spot}
use Rattle.emit.proofs.plan.plan_section.Goals as goal

pub planned_section-planned-requires : goal.planned_section-planned-requires
planned_section-planned-requires c = λ has_bytes.
    let can = c.can_stand.ensures.stands c.if-not-can_stand.false in
    let sections = c.args.object.now.sections in
    let own = has sections c.args.spot.index.0 can.index in
    let d : Section = record { number = record { 0 = 0 }; kind = Progbits; flags = 0; size = 0; alignment = 0 } in
    subst (λ b. IsInFile c.args.limit b c.args.spot.range)
    (sym (bytes_at sections c.args.spot.index.0 c.section_bytes-bytes.result.now c.section_bytes-bytes.ensures
    own.section own.is))
    (can.in_file own.section own.is
    (subst (λ k. HasBytes k c.args.spot.range)
    (ap (λ (s : Section). s.kind)
    (at_index sections c.args.spot.index.0 d c.sections.result.now c.sections.ensures.value own.section own.is))
    has_bytes))

pub returns-in-None-clause-none : goal.returns-in-None-clause-none
returns-in-None-clause-none c = λ l o h.
    let low = (c.can_stand.ensures.stands c.if-not-can_stand.false).index in
    let same = ap (λ (r : ObjectData). length r.sections) h.same in
    let own = has o.object.sections c.args.spot.index.0 (omega (arith, low, same)) in
    subst (λ ts. IsRefused l ts c.args.meter.now c.evaluate_fields.new.meter)
    (sites_at_spot o c.args.spot own.section own.is)
    ((rw c.in-None.is at c.in_ok-evaluate_fields.ensures.none) l o own.section h own.is)

pub returns-in-Some-clause-planned : goal.returns-in-Some-clause-planned
returns-in-Some-clause-planned c = λ l o h.
    let low = (c.can_stand.ensures.stands c.if-not-can_stand.false).index in
    let same = ap (λ (r : ObjectData). length r.sections) h.same in
    let own = has o.object.sections c.args.spot.index.0 (omega (arith, low, same)) in
    let run = (rw c.in-Some.is at c.in_ok-evaluate_fields.ensures.some) l o own.section h own.is in
    let there = ap (λ (r : ObjectData). slice_get r.sections c.args.spot.index.0) (sym h.same) ∙ own.is in
    let bytes_are = bytes_at c.args.object.now.sections c.args.spot.index.0 c.section_bytes-bytes.result.now
    c.section_bytes-bytes.ensures own.section there in
    let d : Section = record { number = record { 0 = 0 }; kind = Progbits; flags = 0; size = 0; alignment = 0 } in (
      planned_at l o c.args.spot own.section own.is c.in-Some.fields.items run.0 _ c.section_bytes-bytes.result.now
          (ap (λ (s : Section). s.kind)
          (at_index c.args.object.now.sections c.args.spot.index.0 d c.sections.result.now c.sections.ensures.value
          own.section there))
          bytes_are
          (written c.planned_section-planned.result)
          (c.planned_section-planned.ensures.planned
          (order_of l o c.args.object.now.sections c.args.spot.index.0 c.args.spot.start
          (length c.args.object.now.symbols) own.section c.in-Some.fields.items c.section_bytes-bytes.result.now
          c.sections.ensures.limits c.relocations-relocations.ensures.limits there bytes_are run.0)),
      run.1 ∙ ap (λ ts. raised c.args.meter.now Fields (evaluations l ts))
          (sites_at_spot o c.args.spot own.section own.is),
    )
