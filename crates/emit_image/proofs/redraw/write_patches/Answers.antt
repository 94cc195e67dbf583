use Rattle.emit_image.proofs.Common.{ap, arith, is_patched, take_all, ◌∙◌}
use Rattle.emit_image.proofs.Patching.{count_on, patch_on_as}
use Rattle.emit_image.proofs.redraw.write_patches.Goals as goal

pub loop-patch-preserved : goal.loop-patch-preserved
loop-patch-preserved c =
    let w = c.write_field.ensures in
    let g = c.grow_to.ensures in
    record {
      patched = λ image all.
          patch_on_as image c.args.patches.now c.loop-patch.patch-index c.args.canvas.now.bytes
          c.loop-patch.canvas.bytes c.write_field.new.canvas.bytes
          c.patch-item.result c.loop-patch-test.true c.patch-item.is all (c.loop-patch.invariant.patched image all)
          (record {
            own = rw c.bytes-field.ensures at w.written;
            before = λ o a. w.before o a ∙ g.same o;
            after = λ o a. (rw c.bytes-field.ensures at w.after) o a ∙ g.same o;
          });
      short = omega (arith, w.len, g.short);
      room = omega (arith, w.room, g.room, c.loop-patch.invariant.room);
      counted = count_on c.args.patches.now c.loop-patch.patch-index c.args.meter.now c.loop-patch.meter
          c.write_field.new.meter c.patch-item.result c.loop-patch-test.true c.patch-item.is
          c.loop-patch.invariant.counted (rw c.bytes-field.ensures at w.counted);
    }

pub returns-clause-grows : goal.returns-clause-grows
returns-clause-grows c = λ image all o h. (c.loop-patch.invariant.patched image all).grows o h

pub returns-clause-settled : goal.returns-clause-settled
returns-clause-settled c = λ image all o h.
    (c.loop-patch.invariant.patched image all).settled o
    (ap (λ qs. is_patched qs o) (take_all c.loop-patch.patch-index c.args.patches.now c.loop-patch-test.false) ∙ h)
