use Rattle.elfobj.proofs.Common.{arith}
use Rattle.elfobj.proofs.FieldMarks.{no_relocation, window_left}
use Rattle.elfobj.proofs.field_marks.leave.Goals as goal

pub loop-at-preserved : goal.loop-at-preserved
loop-at-preserved c = record {
  window = window_left c.args.all.now c.loop-at.at c.args.until no_relocation c.loop-at.marks c.mark.new.marks
      (omega (arith, c.requires.inside)) c.mark.ensures.long c.mark.ensures.inside c.mark.ensures.outside
      c.loop-at.invariant.window;
  long = omega (arith, c.mark.ensures.long, c.loop-at.invariant.long);
  order = omega arith;
}
