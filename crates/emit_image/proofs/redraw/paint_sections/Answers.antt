use Rattle.emit_image.proofs.Common.{AreSectionsReached, IsPainted, after_zeros, arith, drawing_spot, length}
use Rattle.emit_image.proofs.Common.{section_image, subst, sym, ℕ, ◌+◌}
use Rattle.emit_image.proofs.InDrawing.{section-turn-of, sections_to}
use Rattle.emit_image.proofs.Painting.{painted_as, painted_then}
use Rattle.emit_image.proofs.redraw.paint_sections.Goals as goal

pub paint_next_section-at-requires-clause-within : goal.paint_next_section-at-requires-clause-within
paint_next_section-at-requires-clause-within c =
    let d = c.args.drawing.now in
    let t = section-turn-of d c.loop-x.x-index c.loop-x.at c.x-item.result c.requires.drawing c.loop-x.invariant.reached
    c.loop-x-test.true c.x-item.is in
    let to = sections_to d (c.loop-x.x-index + 1) _ t.reached in
    omega (arith, to, c.requires.within)

pub loop-x-preserved : goal.loop-x-preserved
loop-x-preserved c =
    let d = c.args.drawing.now in
    let x = c.x-item.result in
    let i = c.loop-x.invariant in
    let e = c.paint_next_section-at.ensures in
    let t = section-turn-of d c.loop-x.x-index c.loop-x.at x c.requires.drawing i.reached c.loop-x-test.true
    c.x-item.is in
    let old = c.args.canvas.now.bytes in
    let mid = c.loop-x.canvas.bytes in
    let new = c.paint_next_section-at.new.canvas.bytes in
    let m = c.args.meter.now in
    let p = c.loop-x.meter in
    let n = c.paint_next_section-at.new.meter in
    let here : IsPainted mid new p n c.loop-x.at (x.offset + x.size) (drawing_spot d) =
    painted_as mid new p n c.loop-x.at (x.offset + x.size) (after_zeros x.offset (section_image x)) (drawing_spot d)
    e.painted (omega (arith, t.above)) t.spots in
    let all = painted_then old mid new m p n (length d.headers.now) c.loop-x.at (x.offset + x.size) (drawing_spot d)
    i.reached.low (omega (arith, t.above)) i.painted here in
    record {
      reached = subst (λ (k : ℕ). AreSectionsReached d (c.loop-x.x-index + 1) k) (sym e.end) t.reached;
      ready = e.ready;
      painted = subst (λ (k : ℕ). IsPainted old new m n (length d.headers.now) k (drawing_spot d)) (sym e.end) all;
    }
