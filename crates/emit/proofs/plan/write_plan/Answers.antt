use Rattle.emit.proofs.Common.{AreInOrder, Bytes, Counts, IsWithin, ap, arith, count_of, length, raised, subst, sum_by}
use Rattle.emit.proofs.Common.{sym, take, written, written_all, ◌∙◌}
use Rattle.emit.proofs.Writing.{IsStep, each_within, more_raised, more_written}
use Rattle.emit.proofs.Writing.{one_more}
use Rattle.emit.proofs.plan.write_plan.Goals as goal

pub write_patched-requires-clause-within : goal.write_patched-requires-clause-within
write_patched-requires-clause-within c =
    let own : IsWithin (length c.args.canvas.now.bytes) (written c.section-item.result) =
    each_within (length c.args.canvas.now.bytes) c.args.sections.now c.loop-section.section-index c.section-item.result
    c.loop-section-test.true c.section-item.is c.requires in
    let end = own.end in
    let same = c.loop-section.invariant.over.length in
    omega (arith, end, same)

pub write_patched-requires-clause-order : goal.write_patched-requires-clause-order
write_patched-requires-clause-order c =
    let own : IsWithin (length c.args.canvas.now.bytes) (written c.section-item.result) =
    each_within (length c.args.canvas.now.bytes) c.args.sections.now c.loop-section.section-index c.section-item.result
    c.loop-section-test.true c.section-item.is c.requires in
    subst (AreInOrder 0 (length c.section-item.result.bytes.now)) (sym c.deref.ensures.value) own.order

pub loop-section-preserved : goal.loop-section-preserved
loop-section-preserved c =
    let w = c.write_patched.ensures in
    let list = one_more c.args.sections.now c.loop-section.section-index c.section-item.result
    c.loop-section-test.true c.section-item.is in
    let step : IsStep (written c.section-item.result) c.loop-section.canvas.bytes c.write_patched.new.canvas.bytes =
    record {
      own = rw c.deref.ensures.value at w.written;
      before = w.before;
      after = w.after;
      length = w.len;
    } in
    record {
      over = rw list
          (more_written _ (written c.section-item.result) c.args.canvas.now.bytes c.loop-section.canvas.bytes
          c.write_patched.new.canvas.bytes c.loop-section.invariant.over step);
      room = w.room ∙ c.loop-section.invariant.room;
      counted =
          w.counted
          ∙ ap (λ (m : Counts). raised m Bytes (length c.section-item.result.bytes.now))
          c.loop-section.invariant.counted
          ∙ more_raised c.args.meter.now
          (written_all (take c.loop-section.section-index c.args.sections.now)) (written c.section-item.result)
          ∙ ap (λ ws. raised c.args.meter.now Bytes (sum_by count_of ws)) (sym list);
    }
