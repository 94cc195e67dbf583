use Rattle.emit_relocate.proofs.Common.{arith, fault_with, refl, sym, ◌∙◌}
use Rattle.emit_relocate.proofs.Added.{at_entry, tried_fault, tried_field, tried_none}
use Rattle.emit_relocate.proofs.fields.add_site.Goals as goal

pub returns-then-not-is_evaluated-clause-tried : goal.returns-then-not-is_evaluated-clause-tried
returns-then-not-is_evaluated-clause-tried c =
    λ l o x h. tried_none l o x c.args.section.now.start c.args.relocation.now c.args.fields.now.items
    c.args.faults.now.items c.args.meter.now (sym c.is_evaluated.ensures ∙ c.if-not-is_evaluated.true)
    (omega (arith, c.fields-fields.type_inv, c.fields-fields.ensures))

pub returns-in-Ok-clause-tried : goal.returns-in-Ok-clause-tried
returns-in-Ok-clause-tried c =
    λ l o x h.
    let at = at_entry l c.args.section.now o x c.args.relocation.now c.args.entry h c.requires.entry_is in
    let field = c.in-Ok.ensures.evaluated l _ _ at refl in
    tried_field l o x c.args.section.now.start c.args.relocation.now
    (sym c.is_evaluated.ensures ∙ c.if-not-is_evaluated.false)
    _ _ c.in-Ok.field _ _ _ field.0 field.1 c.push_reserved.ensures.items
    (c.in-Ok.ensures.counted l _ at.site refl)

pub returns-in_ok-add_fault-in-Err-clause-tried : goal.returns-in_ok-add_fault-in-Err-clause-tried
returns-in_ok-add_fault-in-Err-clause-tried c =
    λ l o x h.
    let at = at_entry l c.args.section.now o x c.args.relocation.now c.args.entry h c.requires.entry_is in
    tried_fault l o x c.args.section.now.start c.args.relocation.now
    (sym c.is_evaluated.ensures ∙ c.if-not-is_evaluated.false)
    _ (fault_with c.args.section.now c.args.entry c.in-Err.reason) _ _ _ _
    (c.in-Err.ensures.evaluated l _ _ at refl) c.in_ok-add_fault-in-Err.ensures
    (c.in-Err.ensures.counted l _ at.site refl)
