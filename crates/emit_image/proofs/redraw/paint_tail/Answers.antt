use Rattle.emit_image.proofs.Common.{ArePartsReached, IsPainted, arith, drawing_spot, subst, sym, ℕ, ◌+◌, ◌≤◌}
use Rattle.emit_image.proofs.InDrawing.{part-turn, part_within}
use Rattle.emit_image.proofs.Painting.{painted_as, painted_then}
use Rattle.emit_image.proofs.redraw.paint_tail.Goals as goal

pub paint_part-at-requires-clause-within : goal.paint_part-at-requires-clause-within
paint_part-at-requires-clause-within c =
    part_within c.args.drawing.now c.loop-part.part-index c.loop-part.at _ c.args.limit c.requires.drawing
    c.loop-part.invariant.reached c.loop-part-test.true c.requires.within

pub loop-part-preserved : goal.loop-part-preserved
loop-part-preserved c =
    let d = c.args.drawing.now in
    let i = c.loop-part.invariant in
    let e = c.paint_part-at.ensures in
    let t = part-turn d c.loop-part.part-index c.loop-part.at _ c.requires.drawing i.reached c.loop-part-test.true in
    let old = c.args.canvas.now.bytes in
    let mid = c.loop-part.canvas.bytes in
    let new = c.paint_part-at.new.canvas.bytes in
    let m = c.args.meter.now in
    let p = c.loop-part.meter in
    let n = c.paint_part-at.new.meter in
    let here = painted_as mid new p n c.loop-part.at _ _ (drawing_spot d) e.painted (omega (arith, t.above)) t.spots in
    let low : c.args.from ≤ c.loop-part.at = omega (arith, i.reached.low, c.requires.from) in
    let all = painted_then old mid new m p n c.args.from c.loop-part.at _ (drawing_spot d) low
    (omega (arith, t.above)) i.painted here in
    record {
      reached = subst (λ (k : ℕ). ArePartsReached d (c.loop-part.part-index + 1) k) (sym e.end) t.reached;
      ready = e.ready;
      painted = subst (λ (k : ℕ). IsPainted old new m n c.args.from k (drawing_spot d)) (sym e.end) all;
    }
