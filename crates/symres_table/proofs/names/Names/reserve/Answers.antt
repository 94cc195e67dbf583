use Rattle.symres_table.proofs.Common.{State, ap, arith, length, map, rooms, spell, subst, sym, ◌∙◌}
use Rattle.symres_table.proofs.Spelling.{AllSpellable, same_objects, spellable_kept}
use Rattle.symres_table.proofs.Fresh.{unused}
use Rattle.symres_table.proofs.Growing.{both_ok}
use Rattle.symres_table.proofs.Joined.{may_enter}
use Rattle.symres_table.proofs.names.Names.reserve.Goals as goal

pub invariant_of-self : goal.invariant_of-self
invariant_of-self c =
    let a = c.self.inside in
    let e = c.reserve_fields-reserved.ensures in
    record {
      named = subst (AllSpellable c.reserve_fields-reserved.new.known.slots) (sym e.same.objects)
          (spellable_kept a.known.slots c.reserve_fields-reserved.new.known.slots a.objects.objects e.kept
          c.self.invariant.named);
      lists = omega (arith, e.room, ap length e.same.objects);
    }

pub returns-clause-objects : goal.returns-clause-objects
returns-clause-objects c =
    let a = c.self.inside in
    let e = c.reserve_fields-reserved.ensures in
    let new = c.reserve_fields-reserved.new.known.slots in
    ap (map (spell new)) e.same.objects
    ∙ sym (same_objects a.known.slots new a.objects.objects e.kept c.self.invariant.named)
    ∙ ap (λ (s : State). s.objects) c.self.view_is

pub returns-clause-ok : goal.returns-clause-ok
returns-clause-ok c =
    let a = c.self.inside in
    let e = c.reserve_fields-reserved.ensures in
    let new = c.reserve_fields-reserved.new.known.slots in
    let named : AllSpellable new c.reserve_fields-reserved.new.objects.objects =
    subst (AllSpellable new) (sym e.same.objects)
    (spellable_kept a.known.slots new a.objects.objects e.kept c.self.invariant.named) in
    both_ok c.reserve_fields-reserved.result e.ok e.list (λ r l.
    may_enter new c.reserve_fields-reserved.new.objects (rooms c.reserve_fields-reserved.new.spare.items) _
    c.reserve_fields-reserved.new.known.order c.args.object.now.symbols c.len-known.ensures.distinct named r l)

pub returns-clause-unused : goal.returns-clause-unused
returns-clause-unused c =
    let a = c.self.inside in
    let e = c.reserve_fields-reserved.ensures in
    rw (← c.self.view_is)
    (unused a.known c.reserve_fields-reserved.new.known a.objects.objects c.len-before.ensures.listing
    c.len-known.ensures.listing e.added c.self.invariant.named)
