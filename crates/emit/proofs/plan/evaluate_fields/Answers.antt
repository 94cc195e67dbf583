use Rattle.emit.proofs.Common.{IsAdded, ObjectData, Some, ap, arith, length, nil_from_length, slice_get, subst, sym}
use Rattle.emit.proofs.Common.{◌∙◌, ◌≡◌}
use Rattle.std.proofs.lemmas.Bool.Decides.{nat_tests}
use Rattle.emit.proofs.Planning.{below, faultless, placed_of, refused}
use Rattle.emit.proofs.plan.evaluate_fields.Goals as goal

pub add_fields-requires-clause-below : goal.add_fields-requires-clause-below
add_fields-requires-clause-below c =
    let start = c.new-section.ensures.start in
    below c.args.object.now.sections c.args.index.0 c.new-section.result.start c.new-section.result.relocations.now
    c.new-section.ensures.ends
    (λ x is. let whole = c.requires.end x is in omega (arith, start, whole)) c.requires.index

pub returns-then-is_empty-clause-some : goal.returns-then-is_empty-clause-some
returns-then-is_empty-clause-some c = λ l o x h is.
    let there : slice_get c.args.object.now.sections c.args.index.0 ≡ Some x =
    ap (λ (r : ObjectData). slice_get r.sections c.args.index.0) (sym h.same) ∙ is in
    let added : IsAdded l o x c.args.start c.new-fields.result.items c.add_fields.new.fields.items
    c.new-faults.result.items c.add_fields.new.faults.items c.args.meter.now c.add_fields.new.meter =
    subst (λ n. IsAdded l o x n c.new-fields.result.items c.add_fields.new.fields.items c.new-faults.result.items
    c.add_fields.new.faults.items c.args.meter.now c.add_fields.new.meter) c.new-section.ensures.start
    (c.in_ok-add_fields.ensures l o x
    (placed_of l c.args.place c.args.object.now c.args.values.now c.new-section.result o x h
    (c.new-section.ensures.section x there) c.new-section.ensures.values)) in (
      faultless l o x c.args.start c.new-fields.result.items c.add_fields.new.fields.items c.new-faults.result.items
          c.add_fields.new.faults.items c.args.meter.now c.add_fields.new.meter added c.new-fields.ensures.items
          c.new-faults.ensures.items
          (nil_from_length c.add_fields.new.faults.items
          (grind (arith, nat_tests, c.is_empty.ensures, c.if-is_empty.true, c.add_fields.new.faults.ok))),
      added.counts.counted,
    )

pub returns-else-is_empty-clause-none : goal.returns-else-is_empty-clause-none
returns-else-is_empty-clause-none c = λ l o x h is.
    let there : slice_get c.args.object.now.sections c.args.index.0 ≡ Some x =
    ap (λ (r : ObjectData). slice_get r.sections c.args.index.0) (sym h.same) ∙ is in
    let added : IsAdded l o x c.args.start c.new-fields.result.items c.add_fields.new.fields.items
    c.new-faults.result.items c.add_fields.new.faults.items c.args.meter.now c.add_fields.new.meter =
    subst (λ n. IsAdded l o x n c.new-fields.result.items c.add_fields.new.fields.items c.new-faults.result.items
    c.add_fields.new.faults.items c.args.meter.now c.add_fields.new.meter) c.new-section.ensures.start
    (c.in_ok-add_fields.ensures l o x
    (placed_of l c.args.place c.args.object.now c.args.values.now c.new-section.result o x h
    (c.new-section.ensures.section x there) c.new-section.ensures.values)) in
    refused l o x c.args.start c.new-fields.result.items c.add_fields.new.fields.items c.new-faults.result.items
    c.add_fields.new.faults.items c.args.meter.now c.add_fields.new.meter added c.new-faults.ensures.items
    (λ (zero : length c.add_fields.new.faults.items ≡ 0).
    grind (arith, nat_tests, zero, c.is_empty.ensures, c.if-is_empty.false, c.add_fields.new.faults.ok))
