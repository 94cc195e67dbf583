use Rattle.elfobj.proofs.Common.{arith, get_or, refl, relocations_in, share_bytes, sym}
use Rattle.elfobj.proofs.FieldMarks.{no_span, none_met, starts_up, window_apart, window_from, window_none}
use Rattle.elfobj.proofs.RelocationReads.{found_mapped, none_more}
use Rattle.elfobj.proofs.field_marks.is_any_met.Goals as goal
use Rattle.elfobj.proofs.field_marks.is_any_met.Goals.{then-until-span+else-enter, else-until-span}

pub loop-span-init : goal.loop-span-init
loop-span-init c = record {
  window = window_none c.args.all.now c.args.marks.now c.requires.free;
  long = refl;
  ahead = λ j d a l. omega arith;
  apart = refl;
}

pub returns-then-enter : goal.returns-then-enter
returns-then-enter c =
    sym (found_mapped (relocations_in c.args.all.now) share_bytes c.args.spans.now c.loop-span.span-index no_span
    c.loop-span-test.true (c.enter.ensures.shared c.if-enter.true))

pub loop-span-preserved : goal.loop-span-preserved
loop-span-preserved c =
    let i = c.loop-span.span-index in
    let s = get_or c.args.spans.now i no_span in
    let inside = c.requires.within i no_span c.loop-span-test.true in
    elim c.if-until-span.branch [
      | then-until-span+else-enter w ↦
          let window = w.enter.ensures.apart w.if-enter.false in
          rw (w.marks-is, w.until-is) (record {
            window = window;
            long = omega (arith, w.enter.ensures.long, c.leave.ensures.long, c.loop-span.invariant.long);
            ahead = λ j d a l. starts_up c.args.spans.now i j d c.requires.order c.loop-span-test.true (omega arith) l;
            apart = none_more (relocations_in c.args.all.now) share_bytes c.args.spans.now i no_span
                c.loop-span-test.true
                (window_apart c.args.all.now s.start s.end s.start s.end w.enter.new.marks (omega arith)
                (omega arith) window) c.loop-span.invariant.apart;
          })
      | else-until-span w ↦
          let window = window_from c.args.all.now s.start c.loop-span.until c.min.result c.max-until.result
          c.leave.new.marks (omega (arith, c.min.ensures)) (omega (arith, c.max-until.ensures))
          (omega (arith, inside.order, inside.end)) c.leave.ensures.left in
          rw (w.marks-is, w.until-is) (record {
            window = window;
            long = omega (arith, c.leave.ensures.long, c.loop-span.invariant.long);
            ahead = λ j d a l. starts_up c.args.spans.now i j d c.requires.order c.loop-span-test.true (omega arith) l;
            apart = none_more (relocations_in c.args.all.now) share_bytes c.args.spans.now i no_span
                c.loop-span-test.true
                (window_apart c.args.all.now s.start c.max-until.result s.start s.end c.leave.new.marks (omega arith)
                (omega (arith, w.if-until-span.false)) window) c.loop-span.invariant.apart;
          })
    ]

pub returns : goal.returns
returns c = none_met c.args.all.now c.args.spans.now c.loop-span.span-index c.loop-span-test.false
    c.loop-span.invariant.apart
