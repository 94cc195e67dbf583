use Rattle.emit_relocate.proofs.Common.{arith, refl, sym, ◌∙◌}
use Rattle.emit_relocate.proofs.Moving.{moved_filed, moved_none, moved_same}
use Rattle.emit_relocate.proofs.retargeted.StayedSection.add_retargeted_site.Goals as goal

pub returns-then-not-is_evaluated : goal.returns-then-not-is_evaluated
returns-then-not-is_evaluated c =
    λ old l s h. moved_none old l c.args.self.now.range s.object s.section c.args.self.now.section.start
    c.args.relocation.now c.args.patches.now.items c.args.faults.now.items c.args.meter.now
    (sym c.is_evaluated.ensures ∙ c.if-not-is_evaluated.true)
    (omega (arith, c.fields-fields.type_inv, c.fields-fields.ensures))

pub returns-then-not-has_new_value : goal.returns-then-not-has_new_value
returns-then-not-has_new_value c =
    λ old l s h. moved_same old l c.args.self.now.range s.object s.section c.args.self.now.section.start
    c.args.relocation.now (sym c.is_evaluated.ensures ∙ c.if-not-is_evaluated.false)
    c.args.patches.now.items c.args.faults.now.items c.args.meter.now
    (sym (c.has_new_value.ensures old l s c.args.relocation.now h refl) ∙ c.if-not-has_new_value.true)
    (omega (arith, c.fields-fields.type_inv, c.fields-fields.ensures))

pub returns : goal.returns
returns c =
    λ old l s h.
    moved_filed old l c.args.self.now.range s.object s.section c.args.self.now.section.start c.args.relocation.now
    (sym c.is_evaluated.ensures ∙ c.if-not-is_evaluated.false)
    (sym (c.has_new_value.ensures old l s c.args.relocation.now h refl) ∙ c.if-not-has_new_value.false)
    _ _ _ _ _ _ (c.in_ok-add_site_in_file.ensures l s h.section_is)
