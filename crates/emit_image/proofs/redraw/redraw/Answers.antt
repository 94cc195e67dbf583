-- What is written of a drawing.
use Rattle.emit_image.proofs.Common.{Bytes, Counts, IsDrawnFor, Spot, ap, arith, byte_at, count_unstayed, drawing_end}
use Rattle.emit_image.proofs.Common.{drawing_spot, patch_bytes, raised, subst, sym, ℕ, ◌+◌, ◌∙◌, ◌≤◌}
use Rattle.emit_image.proofs.Alike.{count_alike, drawn_alike}
use Rattle.emit_image.proofs.redraw.redraw.Goals as goal

pub returns-clause-image : goal.returns-clause-image
returns-clause-image c = λ p s whole like unstayed h.
    let end = c.drawing_is_image.ensures.end p s whole h in
    let limit = c.image_end-end.ensures in
    c.drawing_is_image.ensures.whole p s _ (c.write_image.ensures.len ∙ limit ∙ like.end ∙ end) (λ o l.
    let new = c.drawing_is_image.ensures.unstayed whole unstayed o in
    c.write_image.ensures.drawn o (omega (arith, end, like.end, limit, l))
    (ap (λ (x : Spot). x.stays) (like.spots o) ∙ new)
    ∙ ap (λ (x : Spot). x.byte) (like.spots o) ∙ c.drawing_is_image.ensures.byte p s whole h o new)

pub returns-clause-redrawn : goal.returns-clause-redrawn
returns-clause-redrawn c = λ old new whole like g h r k.
    let p = new.project in
    let s = new.layout in
    let d = c.args.drawing.now in
    let end = c.drawing_is_image.ensures.end p s whole r.drawing in
    let limit = c.image_end-end.ensures in
    let drawn : IsDrawnFor (byte_at p s) d c.args.patches.now c.make_room.new.canvas.bytes =
    subst (IsDrawnFor (byte_at p s) d c.args.patches.now) (sym (c.make_room.ensures.bytes ∙ k))
    (drawn_alike whole d like (byte_at p s) c.args.patches.now _
    (c.kept_is_image.ensures.drawn old new whole c.args.patches.now g h r)) in
    c.drawing_is_image.ensures.whole p s _ (c.write_image.ensures.len ∙ limit ∙ like.end ∙ end) (λ o l.
    c.write_image.ensures.image (byte_at p s) drawn o (omega (arith, end, like.end, limit, l)))

at_most : (m : Counts) (n : ℕ) → (raised m Bytes n).bytes ≤ m.bytes + n
at_most m n = omega arith

pub returns-clause-work : goal.returns-clause-work
returns-clause-work c = λ old new whole like is_drawing good is kept low.
    let d = c.args.drawing.now in
    let patches = c.args.patches.now in
    let spared = c.kept_is_not_drawn.ensures old new whole good is_drawing is kept in
    let same = count_alike whole d like in
    let bytes = ap (λ (m : Counts). m.bytes) (c.write_image.ensures.counted
    ∙ ap (λ (n : ℕ). raised c.args.meter.now Bytes (patch_bytes patches + count_unstayed (drawing_spot d) n))
    c.image_end-end.ensures) in
    let most = at_most c.args.meter.now (patch_bytes patches + count_unstayed (drawing_spot d) (drawing_end d)) in
    omega (arith, spared, same, bytes, most, low)

pub returns-clause-counted : goal.returns-clause-counted
returns-clause-counted c =
    c.write_image.ensures.counted
    ∙ ap (λ (n : ℕ). raised c.args.meter.now Bytes
    (patch_bytes c.args.patches.now + count_unstayed (drawing_spot c.args.drawing.now) n)) c.image_end-end.ensures

pub returns-clause-spent : goal.returns-clause-spent
returns-clause-spent c = λ old new whole like is_drawing good is kept stayed.
    c.write_image.ensures.counted
    ∙ ap (λ (n : ℕ). raised c.args.meter.now Bytes
    (patch_bytes c.args.patches.now + count_unstayed (drawing_spot c.args.drawing.now) n)) c.image_end-end.ensures
    ∙ ap (λ (n : ℕ). raised c.args.meter.now Bytes (patch_bytes c.args.patches.now + n))
    (count_alike whole c.args.drawing.now like
    ∙ c.kept_is_what_stayed.ensures old new whole good is_drawing is kept stayed)
