use Rattle.relink_driver.proofs.Common.{LinkedSection, Some, ap, arith, length, map, refl, same_Some, section_of}
use Rattle.relink_driver.proofs.Common.{slice_get, sym, ◌∙◌}
use Rattle.relink_driver.proofs.Outlines.{all_same, named_section, never, read_same, same_bare, same_more}
use Rattle.relink_driver.proofs.Outlines.{same_section_names}
use Rattle.relink_driver.proofs.outline.same_sections.Goals as goal
use Rattle.relink_driver.proofs.outline.same_sections.Goals.{then-not-is_same_section-via-then-not-is_same_section}
use Rattle.relink_driver.proofs.outline.same_sections.Goals.{then-not-is_same_section-via-else-not-is_same_section+then-not-is_same_name}

pub loop-number-preserved : goal.loop-number-preserved
loop-number-preserved c =
    same_more section_of (λ (x : LinkedSection). x.name) named_section c.args.a.now.sections c.args.b.now.sections
    c.loop-number.number
    (read_same (map section_of c.args.a.now.sections) (map section_of c.args.b.now.sections) _ _ c.loop-number.number _
    c.sections-before.ensures.value c.sections-now.ensures.value c.loop-number-test.true c.if-before-now.false
    (c.is_same_section.ensures.0 c.if-not-is_same_section.false))
    (c.section_name.ensures ∙ ap Some (c.is_same_name.ensures.0 c.if-not-is_same_name.false)
    ∙ sym c.section_name-else-not-is_same_section.ensures) c.loop-number.invariant

pub returns : goal.returns
returns c =
    let a = ap length c.sections-before.ensures.value in
    let b = ap length c.sections-now.ensures.value in (
      λ yes. all_same section_of (λ (x : LinkedSection). x.name) named_section c.args.a.now.sections
          c.args.b.now.sections
          c.loop-number.number (omega (arith, a, b, c.if-before-now.false))
          (omega (arith, a, c.loop-number-test.false, c.loop-number.auto.number-end)) c.loop-number.invariant,
      λ same. refl,
    )

pub returns-then-not-is_same_section : goal.returns-then-not-is_same_section
returns-then-not-is_same_section c =
    let a = c.args.a.now.sections in
    let b = c.args.b.now.sections in
    elim c.then-not-is_same_section.branch [
      | then-not-is_same_section-via-then-not-is_same_section w ↦ (
        never,
        λ same. sym w.if-not-is_same_section.true ∙ c.is_same_section.ensures.1
            (same_bare a b _ _ c.loop-number.number _ c.sections-before.ensures.value c.sections-now.ensures.value
            same),
      )
      | then-not-is_same_section-via-else-not-is_same_section+then-not-is_same_name w ↦ (
        never,
        λ same. sym w.if-not-is_same_name.true ∙ w.is_same_name.ensures.1 (same_Some _ _
            (sym w.section_name.ensures ∙ ap (λ l. slice_get l c.loop-number.number) (same_section_names a b same)
            ∙ w.section_name-else-not-is_same_section.ensures)),
      )
    ]
