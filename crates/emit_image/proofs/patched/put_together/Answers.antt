use Rattle.emit_image.proofs.Common.{arith}
use Rattle.emit_image.proofs.Together.{ends_within, put_all, put_next}
use Rattle.emit_image.proofs.patched.put_together.Goals as goal

pub put-requires-in-loop-patch : goal.put-requires-in-loop-patch
put-requires-in-loop-patch c =
    let within = ends_within c.args.bytes.now c.args.patches.now c.loop-patch.patch-index c.loop-patch.whole
    c.patch-item.result c.loop-patch-test.true c.patch-item.is c.loop-patch.invariant in
    rw c.bytes.ensures (omega (arith, within, c.requires.few))

pub loop-patch-preserved : goal.loop-patch-preserved
loop-patch-preserved c =
    put_next c.args.bytes.now c.args.patches.now c.loop-patch.patch-index c.loop-patch.whole
    c.put-in-loop-patch.new.whole c.patch-item.result c.loop-patch-test.true c.patch-item.is c.loop-patch.invariant
    (record {
      written = rw c.bytes.ensures at c.put-in-loop-patch.ensures.written;
      before = c.put-in-loop-patch.ensures.before;
      after = rw c.bytes.ensures at c.put-in-loop-patch.ensures.after;
    })

pub returns : goal.returns
returns c =
    put_all c.args.bytes.now c.args.patches.now c.loop-patch.patch-index c.loop-patch.whole c.loop-patch-test.false
    c.loop-patch.invariant
