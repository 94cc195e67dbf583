use Rattle.emit_relocate.proofs.Common.{Relocation, Some, arith, get_or, pos, slice_get, slice_get-get_or}
use Rattle.emit_relocate.proofs.Common.{slice_get_within, ◌+◌, ◌≡◌}
use Rattle.elfobj.specs.declared.relocation.RelocationKind.TheVariants.{None}
use Rattle.emit_relocate.proofs.Added.{tried_all, tried_next}
use Rattle.emit_relocate.proofs.Runs.{next_added}
use Rattle.emit_relocate.proofs.fields.add_sites.Goals as goal

abbrev no_relocation : Relocation
no_relocation = record { offset = 0; symbol = record { 0 = 0 }; kind = None; addend = pos 0 }

pub overflow_add-number : goal.overflow_add-number
overflow_add-number c =
    let r : Relocation = get_or c.args.relocations.now c.loop-entry.entry no_relocation in
    let at : slice_get c.args.section.now.relocations.now (c.args.first + c.loop-entry.entry) ≡ Some r =
    c.requires.entries c.loop-entry.entry r
    (slice_get-get_or c.args.relocations.now c.loop-entry.entry no_relocation c.loop-entry-test.true) in
    let low = slice_get_within c.args.section.now.relocations.now (c.args.first + c.loop-entry.entry) r at in
    let few = c.in_ok-check_numbers.ensures in
    omega (arith, low, few)

pub overflow_cast-number : goal.overflow_cast-number
overflow_cast-number c =
    let r : Relocation = get_or c.args.relocations.now c.loop-entry.entry no_relocation in
    let at : slice_get c.args.section.now.relocations.now (c.args.first + c.loop-entry.entry) ≡ Some r =
    c.requires.entries c.loop-entry.entry r
    (slice_get-get_or c.args.relocations.now c.loop-entry.entry no_relocation c.loop-entry-test.true) in
    let low = slice_get_within c.args.section.now.relocations.now (c.args.first + c.loop-entry.entry) r at in
    let few = c.in_ok-check_numbers.ensures in
    omega (arith, low, few)

pub add_site-requires-clause-entry_is : goal.add_site-requires-clause-entry_is
add_site-requires-clause-entry_is c =
    c.requires.entries c.loop-entry.entry _ (slice_get-get_or _ _ no_relocation c.loop-entry-test.true)

pub loop-entry-preserved : goal.loop-entry-preserved
loop-entry-preserved c = record {
  of = next_added c.args.relocations.now c.loop-entry.entry _
      (slice_get-get_or _ _ _ c.loop-entry-test.true) _ _ _
      c.loop-entry.invariant.of c.in_ok-add_site.ensures.next;
  room = omega (arith, c.loop-entry.invariant.room, c.in_ok-add_site.ensures.capacity, c.in_ok-add_site.ensures.len);
  tried = λ l o x h.
      tried_next l o x c.args.section.now.start c.args.relocations.now c.loop-entry.entry
      no_relocation c.loop-entry-test.true _ _ _ _ _
      _ _ _ _
      (c.loop-entry.invariant.tried l o x h) (c.in_ok-add_site.ensures.tried l o x h);
}

pub returns-clause-tried : goal.returns-clause-tried
returns-clause-tried c =
    λ l o x h. tried_all l o x c.args.section.now.start c.args.relocations.now c.loop-entry.entry
    c.loop-entry-test.false c.loop-entry.auto.entry-end _ _ _ _ _ _ (c.loop-entry.invariant.tried l o x h)
