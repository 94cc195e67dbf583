use Rattle.elfobj.proofs.Common.{arith, field_end, get_or, length, subst, sym, ◌≤◌}
use Rattle.elfobj.proofs.FieldMarks.{no_relocation, window_more, window_shared}
use Rattle.elfobj.proofs.field_marks.enter.Goals as goal

pub returns-then-is_marked-clause-shared : goal.returns-then-is_marked-clause-shared
returns-then-is_marked-clause-shared c = λ h.
    let r = c.is_marked.ensures.marked c.if-is_marked.true in
    window_shared c.args.all.now c.args.from c.loop-at.at c.args.end r.0 no_relocation c.loop-at.marks
    c.loop-at-test.true c.requires.within r.1 r.2 r.3 c.loop-at.invariant.window

pub loop-at-preserved : goal.loop-at-preserved
loop-at-preserved c =
    let from_low = c.loop-at.invariant.window.order in
    let below : field_end (get_or c.args.all.now c.loop-at.at no_relocation) ≤ length c.loop-at.marks
    = subst (λ n. field_end (get_or c.args.all.now c.loop-at.at no_relocation) ≤ n) (sym c.loop-at.invariant.long)
    (c.requires.fields c.loop-at.at no_relocation from_low c.loop-at-test.true) in
    record {
      window = window_more c.args.all.now c.args.from c.loop-at.at no_relocation c.loop-at.marks c.mark.new.marks
          (omega (arith, c.requires.within)) below c.mark.ensures.long
          (c.is_marked.ensures.free c.if-is_marked.false) c.mark.ensures.inside c.mark.ensures.outside
          c.loop-at.invariant.window;
      long = omega (arith, c.mark.ensures.long, c.loop-at.invariant.long);
      order = omega arith;
    }
