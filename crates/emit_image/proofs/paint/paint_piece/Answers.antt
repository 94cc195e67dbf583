use Rattle.emit_image.proofs.Common.{Bytes, ap, arith, piece_byte, raised, refl, ℕ, ◌+◌, ◌-◌, ◌∙◌, ◌≡◌}
use Rattle.emit_image.proofs.Painting.{painted_kept, painted_own}
use Rattle.emit_image.proofs.paint.paint_piece.Goals as goal

pub returns-then-piece-clause-painted : goal.returns-then-piece-clause-painted
returns-then-piece-clause-painted c =
    let x = c.args.piece.now in
    painted_kept c.args.canvas.now.bytes c.args.canvas.now.bytes c.args.meter.now c.args.from (c.args.from + x.size)
    (λ o. record { byte = piece_byte (x.start + (o - c.args.from)) x; stays = x.stays }) (λ o. c.if-piece.true)
    (λ o. refl) c.requires.within

pub returns-clause-painted : goal.returns-clause-painted
returns-clause-painted c =
    let x = c.args.piece.now in
    let from = c.args.from in
    let size : x.size ≡ from + x.size - from = omega arith in
    let r = c.write_drawn.ensures in
    painted_own c.args.canvas.now.bytes c.args.canvas.now.bytes c.write_drawn.new.canvas.bytes c.args.meter.now
    c.write_drawn.new.meter from (from + x.size) (λ i. piece_byte (x.start + i) x) x.stays (omega arith)
    c.if-piece.false (λ o. refl) c.requires.within (λ i h. r.own i (omega (arith, h))) r.before r.after r.len
    (r.counted ∙ ap (λ (n : ℕ). raised c.args.meter.now Bytes n) size)
