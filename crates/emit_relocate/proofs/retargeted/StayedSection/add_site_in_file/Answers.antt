use Rattle.emit_relocate.proofs.Common.{Patch, [], arith, fault_with, length, length_push, refl, slice_get_within, ◌++◌}
use Rattle.emit_relocate.proofs.Common.{◌∷◌, ◌≡◌}
use Rattle.emit_relocate.proofs.Added.{at_entry, tried_fault, tried_field}
use Rattle.emit_relocate.proofs.FieldsInFile.{filed_none, filed_one}
use Rattle.emit_relocate.proofs.retargeted.StayedSection.add_site_in_file.Goals as goal

pub overflow_cast-entry : goal.overflow_cast-entry
overflow_cast-entry c =
    let low = slice_get_within c.args.self.now.section.relocations.now c.args.entry c.args.relocation.now
    c.requires.entry_is in
    omega (arith, low, c.in_ok-check_numbers.ensures)

pub returns-in_ok-add_in_file-in-Ok : goal.returns-in_ok-add_in_file-in-Ok
returns-in_ok-add_in_file-in-Ok c =
    λ l s h.
    let m = c.args.self.now.section in
    let r = c.args.relocation.now in
    let ps = c.args.patches.now.items in
    let q : Patch = c.in-Ok.field in
    let at = at_entry l m s.object s.section r c.args.entry h c.requires.entry_is in
    let field = c.in-Ok.ensures.evaluated l _ _ at refl in
    let tried = tried_field l s.object s.section m.start r c.requires.evaluated ps (ps ++ q ∷ []) q _ _ _ field.0
    field.1 refl (c.in-Ok.ensures.counted l _ at.site refl) in
    let differs : length (ps ++ q ∷ []) ≡ length ps → ⊥ = λ e. omega (arith, e, length_push ps q) in
    filed_one l c.args.self.now.range s.object s.section m.start r _ _ _ _ _ _ tried ps _ q refl
    c.in_ok-add_in_file-in-Ok.ensures differs

pub returns-in_ok-add_fault-in-Err : goal.returns-in_ok-add_fault-in-Err
returns-in_ok-add_fault-in-Err c =
    λ l s h.
    let m = c.args.self.now.section in
    let r = c.args.relocation.now in
    let at = at_entry l m s.object s.section r c.args.entry h c.requires.entry_is in
    let tried = tried_fault l s.object s.section m.start r c.requires.evaluated c.args.patches.now.items
    (fault_with m c.args.entry c.in-Err.reason) _ _ _ _ (c.in-Err.ensures.evaluated l _ _ at refl)
    c.in_ok-add_fault-in-Err.ensures
    (c.in-Err.ensures.counted l _ at.site refl) in
    filed_none l c.args.self.now.range s.object s.section m.start r _ _ _ _ _ _ tried refl
