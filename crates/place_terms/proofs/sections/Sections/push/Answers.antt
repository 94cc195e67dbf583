use Rattle.place_terms.proofs.Common.{arith, both, earlier_of, keyed, keyed_piece, length, length-map}
use Rattle.place_terms.proofs.FoundSections.{both_pushed, next_number, pushed_elsewhere, pushed_in, pushed_nowhere}
use Rattle.place_terms.proofs.sections.Sections.push.Goals as goal

pub invariant_of-self-in-Elsewhere : goal.invariant_of-self-in-Elsewhere
invariant_of-self-in-Elsewhere c =
    rw (c.in_ok-push.ensures.items, both_pushed c.self.inside.taken.items c.self.inside.list.items c.args.section) (
      pushed_elsewhere c.self.inside.script.now (both c.self.inside.taken.items c.self.inside.list.items)
          (keyed c.args.section) c.self.inside.differences.items c.self.inside.elsewhere c.self.inside.count
          c.in_ok-count.count c.self.inside.data_count c.in_ok-data_count.data_count c.self.invariant.0
          (next_number c.self.inside.script.now (earlier_of c.self.inside.earlier)
          (both c.self.inside.taken.items c.self.inside.list.items) (length c.self.inside.list.items)
          c.args.self.now
          c.args.section.output.now c.self.view_is c.statements-statements.ensures.sound c.requires.next)
          c.requires.fits
          (omega (arith, c.in_ok-count.ensures, c.len-2.ensures, length-map c.args.section.pieces.items keyed_piece))
          (omega (arith, c.in_ok-data_count.ensures, c.len-3.ensures))
          c.len.result c.difference_slot-difference_slot.result
          (omega (arith, c.len.ensures)) c.in-Elsewhere.is c.difference_slot-difference_slot.ensures,
      c.self.invariant.1,
    )

pub invariant_of-self-in-Nowhere : goal.invariant_of-self-in-Nowhere
invariant_of-self-in-Nowhere c =
    rw (c.in_ok-push.ensures.items, both_pushed c.self.inside.taken.items c.self.inside.list.items c.args.section) (
      pushed_nowhere c.self.inside.script.now (both c.self.inside.taken.items c.self.inside.list.items)
          (keyed c.args.section) c.self.inside.differences.items c.self.inside.elsewhere c.self.inside.count
          c.in_ok-count.count c.self.inside.data_count c.in_ok-data_count.data_count c.self.invariant.0
          (next_number c.self.inside.script.now (earlier_of c.self.inside.earlier)
          (both c.self.inside.taken.items c.self.inside.list.items) (length c.self.inside.list.items)
          c.args.self.now
          c.args.section.output.now c.self.view_is c.statements-statements.ensures.sound c.requires.next)
          c.requires.fits
          (omega (arith, c.in_ok-count.ensures, c.len-2.ensures, length-map c.args.section.pieces.items keyed_piece))
          (omega (arith, c.in_ok-data_count.ensures, c.len-3.ensures))
          c.len.result c.difference_slot-difference_slot.result
          (omega (arith, c.len.ensures)) c.in-Nowhere.is c.difference_slot-difference_slot.ensures,
      c.self.invariant.1,
    )

pub invariant_of-self-in-At : goal.invariant_of-self-in-At
invariant_of-self-in-At c =
    rw (c.in_ok-push.ensures.items, both_pushed c.self.inside.taken.items c.self.inside.list.items c.args.section) (
      pushed_in c.self.inside.script.now (both c.self.inside.taken.items c.self.inside.list.items)
          (keyed c.args.section) c.self.inside.differences.items c.self.inside.elsewhere c.self.inside.count
          c.in_ok-count.count c.self.inside.data_count c.in_ok-data_count.data_count c.self.invariant.0
          (next_number c.self.inside.script.now (earlier_of c.self.inside.earlier)
          (both c.self.inside.taken.items c.self.inside.list.items) (length c.self.inside.list.items)
          c.args.self.now
          c.args.section.output.now c.self.view_is c.statements-statements.ensures.sound c.requires.next)
          c.requires.fits
          (omega (arith, c.in_ok-count.ensures, c.len-2.ensures, length-map c.args.section.pieces.items keyed_piece))
          (omega (arith, c.in_ok-data_count.ensures, c.len-3.ensures))
          c.in-At.number c.len.result c.difference_slot-difference_slot.result (omega (arith, c.len.ensures)) c.in-At.is
          c.difference_slot-difference_slot.ensures,
      c.self.invariant.1,
    )
