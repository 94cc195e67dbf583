use Rattle.place_terms.proofs.Common.{IsOutput, OutputSection, ap, arith, both, difference_of, earlier_of, keyed_taken}
use Rattle.place_terms.proofs.Common.{length, refl, section_of, set, subst, sym, ◌+◌, ◌∙◌}
use Rattle.place_terms.proofs.FoundSections.{both_taken, next_number, pushed_elsewhere, pushed_in, pushed_nowhere}
use Rattle.place_terms.proofs.TakenOver.{commands_more, counted_more, taken_more, with_taken}
use Rattle.place_terms.specs.SectionTable.{nameless, AreSectionsOf, IsDifferenceSlot}
use Rattle.place_terms.proofs.sections.Sections.take.Goals as goal

pub invariant_of-self-in-Elsewhere : goal.invariant_of-self-in-Elsewhere
invariant_of-self-in-Elsewhere c = (
  subst (λ l. AreSectionsOf c.self.inside.script.now l c.self.inside.differences.items
      (difference_of (section_of nameless (keyed_taken c.in-Some.section)))
      (c.self.inside.count + length c.in-Some.section.starts.now) c.args.data_end)
      (sym (ap (λ l. both l c.self.inside.list.items) c.in_ok-push.ensures.items
      ∙ both_taken c.self.inside.taken.items c.self.inside.list.items c.in-Some.section
      (sym c.deref.ensures.value ∙ c.in-Some.ensures.first)))
      (pushed_elsewhere c.self.inside.script.now (both c.self.inside.taken.items c.self.inside.list.items)
      (keyed_taken c.in-Some.section) c.self.inside.differences.items c.self.inside.elsewhere
      c.self.inside.count
      (c.self.inside.count + length c.in-Some.section.starts.now) c.self.inside.data_count c.args.data_end
      c.self.invariant.0
      (next_number c.self.inside.script.now (earlier_of c.self.inside.earlier)
      (both c.self.inside.taken.items c.self.inside.list.items) (length c.self.inside.list.items)
      c.args.self.now c.in-Some.section.output.now
      c.self.view_is c.statements-statements.ensures.sound
      (subst (IsOutput c.args.self.now.script (length c.args.self.now.list)) (sym c.in-Some.ensures.is.output)
      c.requires.next))
      c.in-Some.ensures.is.fits
      (counted_more c.self.inside.script.now c.self.inside.earlier c.self.inside.taken.items
      c.self.inside.list.items c.self.inside.differences.items c.self.inside.elsewhere c.self.inside.count
      c.self.inside.data_count c.self.inside.taken_count
      (sym c.deref.ensures.value ∙ c.in-Some.ensures.first)
      c.self.invariant.0 c.self.invariant.1 c.len-number.result c.args.output.now c.args.row.now
      c.in-Some.section.data_commands.now c.in-Some.section (omega (arith, c.len-number.ensures)) c.in-Some.ensures.is
      (c.self.inside.count + length c.in-Some.section.starts.now) refl)
      (commands_more c.self.inside.script.now c.self.inside.earlier c.self.inside.taken.items
      c.self.inside.list.items c.self.inside.differences.items c.self.inside.elsewhere c.self.inside.count
      c.self.inside.data_count c.self.inside.taken_count
      (sym c.deref.ensures.value ∙ c.in-Some.ensures.first)
      c.self.invariant.0 c.self.invariant.1 c.len-number.result c.args.output.now c.args.row.now
      c.in-Some.section.data_commands.now c.in-Some.section (omega (arith, c.len-number.ensures)) c.in-Some.ensures.is
      c.args.data_end c.in-Some.ensures.long)
      c.len.result c.difference_slot-difference_slot.result (omega (arith, c.len.ensures)) c.in-Elsewhere.is
      (subst (λ (x : OutputSection). IsDifferenceSlot c.self.inside.script.now c.len.result x.region
      c.difference_slot-difference_slot.result)
      (sym c.in-Some.ensures.is.output) c.difference_slot-difference_slot.ensures)),
  taken_more c.self.inside.script.now c.self.inside.earlier c.self.inside.taken.items
      c.self.inside.list.items c.self.inside.differences.items c.self.inside.elsewhere c.self.inside.count
      c.self.inside.data_count c.self.inside.taken_count
      (sym c.deref.ensures.value ∙ c.in-Some.ensures.first)
      c.self.invariant.0 c.self.invariant.1 c.len-number.result c.args.output.now c.args.row.now
      c.in-Some.section.data_commands.now c.in-Some.section (omega (arith, c.len-number.ensures)) c.in-Some.ensures.is
      c.push.new.list.items (c.self.inside.count + length c.in-Some.section.starts.now) c.in_ok-push.ensures.items refl,
)

pub invariant_of-self-in-Nowhere : goal.invariant_of-self-in-Nowhere
invariant_of-self-in-Nowhere c = (
  subst (λ l. AreSectionsOf c.self.inside.script.now l c.self.inside.differences.items
      c.self.inside.elsewhere (c.self.inside.count + length c.in-Some.section.starts.now) c.args.data_end)
      (sym (ap (λ l. both l c.self.inside.list.items) c.in_ok-push.ensures.items
      ∙ both_taken c.self.inside.taken.items c.self.inside.list.items c.in-Some.section
      (sym c.deref.ensures.value ∙ c.in-Some.ensures.first)))
      (pushed_nowhere c.self.inside.script.now (both c.self.inside.taken.items c.self.inside.list.items)
      (keyed_taken c.in-Some.section) c.self.inside.differences.items c.self.inside.elsewhere
      c.self.inside.count
      (c.self.inside.count + length c.in-Some.section.starts.now) c.self.inside.data_count c.args.data_end
      c.self.invariant.0
      (next_number c.self.inside.script.now (earlier_of c.self.inside.earlier)
      (both c.self.inside.taken.items c.self.inside.list.items) (length c.self.inside.list.items)
      c.args.self.now c.in-Some.section.output.now
      c.self.view_is c.statements-statements.ensures.sound
      (subst (IsOutput c.args.self.now.script (length c.args.self.now.list)) (sym c.in-Some.ensures.is.output)
      c.requires.next))
      c.in-Some.ensures.is.fits
      (counted_more c.self.inside.script.now c.self.inside.earlier c.self.inside.taken.items
      c.self.inside.list.items c.self.inside.differences.items c.self.inside.elsewhere c.self.inside.count
      c.self.inside.data_count c.self.inside.taken_count
      (sym c.deref.ensures.value ∙ c.in-Some.ensures.first)
      c.self.invariant.0 c.self.invariant.1 c.len-number.result c.args.output.now c.args.row.now
      c.in-Some.section.data_commands.now c.in-Some.section (omega (arith, c.len-number.ensures)) c.in-Some.ensures.is
      (c.self.inside.count + length c.in-Some.section.starts.now) refl)
      (commands_more c.self.inside.script.now c.self.inside.earlier c.self.inside.taken.items
      c.self.inside.list.items c.self.inside.differences.items c.self.inside.elsewhere c.self.inside.count
      c.self.inside.data_count c.self.inside.taken_count
      (sym c.deref.ensures.value ∙ c.in-Some.ensures.first)
      c.self.invariant.0 c.self.invariant.1 c.len-number.result c.args.output.now c.args.row.now
      c.in-Some.section.data_commands.now c.in-Some.section (omega (arith, c.len-number.ensures)) c.in-Some.ensures.is
      c.args.data_end c.in-Some.ensures.long)
      c.len.result c.difference_slot-difference_slot.result (omega (arith, c.len.ensures)) c.in-Nowhere.is
      (subst (λ (x : OutputSection). IsDifferenceSlot c.self.inside.script.now c.len.result x.region
      c.difference_slot-difference_slot.result)
      (sym c.in-Some.ensures.is.output) c.difference_slot-difference_slot.ensures)),
  taken_more c.self.inside.script.now c.self.inside.earlier c.self.inside.taken.items
      c.self.inside.list.items c.self.inside.differences.items c.self.inside.elsewhere c.self.inside.count
      c.self.inside.data_count c.self.inside.taken_count
      (sym c.deref.ensures.value ∙ c.in-Some.ensures.first)
      c.self.invariant.0 c.self.invariant.1 c.len-number.result c.args.output.now c.args.row.now
      c.in-Some.section.data_commands.now c.in-Some.section (omega (arith, c.len-number.ensures)) c.in-Some.ensures.is
      c.push.new.list.items (c.self.inside.count + length c.in-Some.section.starts.now) c.in_ok-push.ensures.items refl,
)

pub invariant_of-self-in-At : goal.invariant_of-self-in-At
invariant_of-self-in-At c = (
  subst (λ l. AreSectionsOf c.self.inside.script.now l
      (set c.self.inside.differences.items c.in-At.number
      (difference_of (section_of nameless (keyed_taken c.in-Some.section))))
      c.self.inside.elsewhere (c.self.inside.count + length c.in-Some.section.starts.now) c.args.data_end)
      (sym (ap (λ l. both l c.self.inside.list.items) c.in_ok-push.ensures.items
      ∙ both_taken c.self.inside.taken.items c.self.inside.list.items c.in-Some.section
      (sym c.deref.ensures.value ∙ c.in-Some.ensures.first)))
      (pushed_in c.self.inside.script.now (both c.self.inside.taken.items c.self.inside.list.items)
      (keyed_taken c.in-Some.section) c.self.inside.differences.items c.self.inside.elsewhere
      c.self.inside.count
      (c.self.inside.count + length c.in-Some.section.starts.now) c.self.inside.data_count c.args.data_end
      c.self.invariant.0
      (next_number c.self.inside.script.now (earlier_of c.self.inside.earlier)
      (both c.self.inside.taken.items c.self.inside.list.items) (length c.self.inside.list.items)
      c.args.self.now c.in-Some.section.output.now
      c.self.view_is c.statements-statements.ensures.sound
      (subst (IsOutput c.args.self.now.script (length c.args.self.now.list)) (sym c.in-Some.ensures.is.output)
      c.requires.next))
      c.in-Some.ensures.is.fits
      (counted_more c.self.inside.script.now c.self.inside.earlier c.self.inside.taken.items
      c.self.inside.list.items c.self.inside.differences.items c.self.inside.elsewhere c.self.inside.count
      c.self.inside.data_count c.self.inside.taken_count
      (sym c.deref.ensures.value ∙ c.in-Some.ensures.first)
      c.self.invariant.0 c.self.invariant.1 c.len-number.result c.args.output.now c.args.row.now
      c.in-Some.section.data_commands.now c.in-Some.section (omega (arith, c.len-number.ensures)) c.in-Some.ensures.is
      (c.self.inside.count + length c.in-Some.section.starts.now) refl)
      (commands_more c.self.inside.script.now c.self.inside.earlier c.self.inside.taken.items
      c.self.inside.list.items c.self.inside.differences.items c.self.inside.elsewhere c.self.inside.count
      c.self.inside.data_count c.self.inside.taken_count
      (sym c.deref.ensures.value ∙ c.in-Some.ensures.first)
      c.self.invariant.0 c.self.invariant.1 c.len-number.result c.args.output.now c.args.row.now
      c.in-Some.section.data_commands.now c.in-Some.section (omega (arith, c.len-number.ensures)) c.in-Some.ensures.is
      c.args.data_end c.in-Some.ensures.long)
      c.in-At.number c.len.result c.difference_slot-difference_slot.result (omega (arith, c.len.ensures)) c.in-At.is
      (subst (λ (x : OutputSection). IsDifferenceSlot c.self.inside.script.now c.len.result x.region
      c.difference_slot-difference_slot.result)
      (sym c.in-Some.ensures.is.output) c.difference_slot-difference_slot.ensures)),
  taken_more c.self.inside.script.now c.self.inside.earlier c.self.inside.taken.items
      c.self.inside.list.items c.self.inside.differences.items c.self.inside.elsewhere c.self.inside.count
      c.self.inside.data_count c.self.inside.taken_count
      (sym c.deref.ensures.value ∙ c.in-Some.ensures.first)
      c.self.invariant.0 c.self.invariant.1 c.len-number.result c.args.output.now c.args.row.now
      c.in-Some.section.data_commands.now c.in-Some.section (omega (arith, c.len-number.ensures)) c.in-Some.ensures.is
      c.push.new.list.items (c.self.inside.count + length c.in-Some.section.starts.now) c.in_ok-push.ensures.items refl,
)

pub returns-in-Elsewhere-clause-taken : goal.returns-in-Elsewhere-clause-taken
returns-in-Elsewhere-clause-taken c = λ _.
    with_taken c.self.inside.script.now c.self.inside.earlier c.self.inside.taken.items
    c.self.inside.list.items c.self.inside.differences.items c.self.inside.elsewhere c.self.inside.count
    c.self.inside.data_count c.self.inside.taken_count
    (sym c.deref.ensures.value ∙ c.in-Some.ensures.first)
    c.self.invariant.0 c.self.invariant.1 c.len-number.result c.args.output.now c.args.row.now
    c.in-Some.section.data_commands.now c.in-Some.section (omega (arith, c.len-number.ensures)) c.in-Some.ensures.is
    c.args.self.now c.self.view_is c.push.new.list.items c.in_ok-push.ensures.items c.args.data_end
    c.in-Some.ensures.part c.in-Some.ensures.long

pub returns-in-Nowhere-clause-taken : goal.returns-in-Nowhere-clause-taken
returns-in-Nowhere-clause-taken c = λ _.
    with_taken c.self.inside.script.now c.self.inside.earlier c.self.inside.taken.items
    c.self.inside.list.items c.self.inside.differences.items c.self.inside.elsewhere c.self.inside.count
    c.self.inside.data_count c.self.inside.taken_count
    (sym c.deref.ensures.value ∙ c.in-Some.ensures.first)
    c.self.invariant.0 c.self.invariant.1 c.len-number.result c.args.output.now c.args.row.now
    c.in-Some.section.data_commands.now c.in-Some.section (omega (arith, c.len-number.ensures)) c.in-Some.ensures.is
    c.args.self.now c.self.view_is c.push.new.list.items c.in_ok-push.ensures.items c.args.data_end
    c.in-Some.ensures.part c.in-Some.ensures.long

pub returns-in-At-clause-taken : goal.returns-in-At-clause-taken
returns-in-At-clause-taken c = λ _.
    with_taken c.self.inside.script.now c.self.inside.earlier c.self.inside.taken.items
    c.self.inside.list.items c.self.inside.differences.items c.self.inside.elsewhere c.self.inside.count
    c.self.inside.data_count c.self.inside.taken_count
    (sym c.deref.ensures.value ∙ c.in-Some.ensures.first)
    c.self.invariant.0 c.self.invariant.1 c.len-number.result c.args.output.now c.args.row.now
    c.in-Some.section.data_commands.now c.in-Some.section (omega (arith, c.len-number.ensures)) c.in-Some.ensures.is
    c.args.self.now c.self.view_is c.push.new.list.items c.in_ok-push.ensures.items c.args.data_end
    c.in-Some.ensures.part c.in-Some.ensures.long
