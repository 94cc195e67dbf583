use Rattle.emit_image.proofs.Common.{IsPainted, Spot, ap, arith, drawing_end, drawing_spot, end_of_sections, false}
use Rattle.emit_image.proofs.Common.{length, slice_index, subst, sym, ℕ, ◌+◌, ◌-◌, ◌∙◌, ◌≡◌}
use Rattle.emit_image.proofs.InDrawing.{header_spot, sections-end, parts_end}
use Rattle.emit_image.proofs.Painting.{painted_as, painted_then}
use Rattle.emit_image.proofs.redraw.paint_drawing.Goals as goal

pub paint_bytes-requires-clause-within : goal.paint_bytes-requires-clause-within
paint_bytes-requires-clause-within c =
    let d = c.args.drawing.now in
    let end = sections-end (length d.headers.now) d.sections.now c.requires.drawing.sections in
    let last = parts_end _ d.tail.now c.requires.drawing.tail in
    omega (arith, end, last, c.requires.limit)

pub paint_sections-at-requires-clause-within : goal.paint_sections-at-requires-clause-within
paint_sections-at-requires-clause-within c =
    let last = parts_end _ c.args.drawing.now.tail.now c.requires.drawing.tail in
    omega (arith, last, c.requires.limit)

pub returns-clause-painted : goal.returns-clause-painted
returns-clause-painted c =
    let d = c.args.drawing.now in
    let front : ℕ = length d.headers.now in
    let old = c.args.canvas.now.bytes in
    let first = c.paint_bytes.new.canvas.bytes in
    let second = c.paint_sections-at.new.canvas.bytes in
    let new = c.paint_tail-end.new.canvas.bytes in
    let m = c.args.meter.now in
    let p = c.paint_bytes.new.meter in
    let q = c.paint_sections-at.new.meter in
    let n = c.paint_tail-end.new.meter in
    let mid : ℕ = end_of_sections front d.sections.now in
    let image : ℕ → Spot = λ o. record { byte = slice_index d.headers.now (o - 0); stays = false } in
    let zero : 0 + front ≡ front = omega arith in
    let painted : IsPainted old first m p 0 front image =
    subst (λ (n : ℕ). IsPainted old first m p 0 n image) zero c.paint_bytes.ensures.painted in
    let headers = painted_as old first m p 0 front image (drawing_spot d) painted (omega arith)
    (λ o a b.
    let back : o - 0 ≡ o = omega arith in
    ap (λ (i : ℕ). record { byte = slice_index d.headers.now i; stays = false }) back ∙ sym (header_spot d o b)) in
    let end = sections-end front d.sections.now c.requires.drawing.sections in
    let last = parts_end mid d.tail.now c.requires.drawing.tail in
    let sections = painted_then old first second m p q 0 front mid (drawing_spot d) (omega arith) end headers
    c.paint_sections-at.ensures.painted in
    painted_then old second new m q n 0 mid (drawing_end d) (drawing_spot d) (omega arith) last sections
    (rw c.paint_sections-at.ensures.end at c.paint_tail-end.ensures.painted)
