use Rattle.emit_relocate.proofs.Common.{arith, pos, slice_get-get_or}
use Rattle.elfobj.specs.declared.relocation.RelocationKind.TheVariants.{None}
use Rattle.emit_relocate.proofs.Moving.{moved_all, moved_next, moved_nothing}
use Rattle.emit_relocate.proofs.retargeted.StayedSection.add_retargeted.Goals as goal

pub loop-entry-init : goal.loop-entry-init
loop-entry-init c =
    λ old l s h. moved_nothing old l c.args.self.now.range c.args.patches.now.items c.args.faults.now.items
    c.args.meter.now (omega (arith, c.fields-fields.type_inv, c.fields-fields.ensures))

pub add_retargeted_site-requires-clause-entry_is : goal.add_retargeted_site-requires-clause-entry_is
add_retargeted_site-requires-clause-entry_is c = slice_get-get_or _ _ _ c.loop-entry-test.true

pub loop-entry-preserved : goal.loop-entry-preserved
loop-entry-preserved c =
    λ old l s h.
    moved_next old l c.args.self.now.range s.object s.section c.args.self.now.section.start
    c.args.self.now.section.relocations.now c.loop-entry.entry
    (record { offset = 0; symbol = record { 0 = 0 }; kind = None; addend = pos 0 }) c.loop-entry-test.true
    _ _ _ _ _ _ _ _ _
    (c.loop-entry.invariant old l s h) (c.in_ok-add_retargeted_site.ensures old l s h)

pub returns : goal.returns
returns c =
    λ old l s h. moved_all old l c.args.self.now.range s.object s.section c.args.self.now.section.start
    c.args.self.now.section.relocations.now c.loop-entry.entry c.loop-entry-test.false c.loop-entry.auto.entry-end
    _ _ _ _ _ _ (c.loop-entry.invariant old l s h)
