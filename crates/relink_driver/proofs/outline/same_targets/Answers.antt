use Rattle.relink_driver.proofs.Common.{Some, ap, arith, length, length-map, map, refl, same_Some, section_of}
use Rattle.relink_driver.proofs.Common.{section_targets, slice_get, sym, ◌∙◌}
use Rattle.relink_driver.proofs.Outlines.{all_mapped, never, one_more, targets_at}
use Rattle.relink_driver.proofs.outline.same_targets.Goals as goal

pub loop-number-preserved : goal.loop-number-preserved
loop-number-preserved c =
    one_more (map section_targets c.args.a.now.sections) (map section_targets c.args.b.now.sections)
    c.loop-number.number c.loop-number.invariant
    (targets_at c.args.a.now.sections c.loop-number.number _ c.relocations.ensures.value
    ∙ ap Some (c.same_references.ensures.0 c.if-not-same_references.false)
    ∙ sym (targets_at c.args.b.now.sections c.loop-number.number _ c.relocations-in-loop-number.ensures.value))

pub returns : goal.returns
returns c =
    let a = ap length c.sections-before.ensures.value ∙ length-map c.args.a.now.sections section_of in
    let b = ap length c.sections-now.ensures.value ∙ length-map c.args.b.now.sections section_of in (
      λ yes. all_mapped section_targets c.args.a.now.sections c.args.b.now.sections c.loop-number.number
          (omega (arith, a, b, c.if-before-now.false))
          (omega (arith, a, c.loop-number-test.false, c.loop-number.auto.number-end)) c.loop-number.invariant,
      λ same. refl,
    )

pub returns-then-not-same_references : goal.returns-then-not-same_references
returns-then-not-same_references c = (
  never,
  λ same. sym c.if-not-same_references.true ∙ c.same_references.ensures.1 (same_Some _ _
      (sym (targets_at c.args.a.now.sections c.loop-number.number _ c.relocations.ensures.value)
      ∙ ap (λ l. slice_get l c.loop-number.number) same
      ∙ targets_at c.args.b.now.sections c.loop-number.number _ c.relocations-in-loop-number.ensures.value)),
)
