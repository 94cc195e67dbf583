use Rattle.emit_image.proofs.Common.{Bool, Bytes, Counts, ap, arith, capped, count_from, count_unstayed, drawing_end}
use Rattle.emit_image.proofs.Common.{drawing_spot, false, inl, inr, is_patched, patch_bytes, raised, refl, true, ℕ, ◌+◌}
use Rattle.emit_image.proofs.Common.{◌-◌, ◌<◌, ◌^◌, ◌∙◌, ◌≡◌, ◌⊎◌}
use Rattle.emit_image.proofs.Painting.{count_from_start}
use Rattle.emit_image.proofs.redraw.write_image.Goals as goal

bool_cases : (b : Bool) → (b ≡ true) ⊎ (b ≡ false)
bool_cases true = inl refl
bool_cases false = inr refl

pub returns-clause-len : goal.returns-clause-len
returns-clause-len c =
    let long = c.paint_drawing.ensures.painted.reached (omega arith) in
    omega (arith, long, c.requires.end, c.paint_drawing.ensures.ready.short)

pub returns-clause-drawn : goal.returns-clause-drawn
returns-clause-drawn c = λ o l s.
    c.paint_drawing.ensures.painted.drawn o (omega arith) (omega (arith, l, c.requires.end)) s

pub returns-clause-image : goal.returns-clause-image
returns-clause-image c = λ image plan o l.
    let d = c.args.drawing.now in
    let r = c.paint_drawing.ensures.painted in
    let below : o < drawing_end d = omega (arith, l, c.requires.end) in
    elim (bool_cases (drawing_spot d o).stays) [
      | inl s ↦ r.kept o (omega arith) below s ∙ (elim (bool_cases (is_patched c.args.patches.now o)) [
        | inl t ↦ c.write_patches.ensures.settled image plan.patched o t
        | inr f ↦ (let there = plan.stays o below s f in
            c.write_patches.ensures.grows image plan.patched o
            (c.resize_reserved.ensures.kept o (omega (arith, l, there.0)) there.0 ∙ there.1))
      ])
      | inr s ↦ r.drawn o (omega arith) below s ∙ plan.drawn o below s
    ]

raised_none : (m : Counts) → m.bytes < 2 ^ 64 → m ≡ raised m Bytes 0
raised_none m h =
    let e : m.bytes ≡ capped m.bytes 0 = omega arith in
    ap (λ n. record m { bytes = n }) e

pub returns-clause-counted : goal.returns-clause-counted
returns-clause-counted c =
    let d = c.args.drawing.now in
    let patched : ℕ = patch_bytes c.args.patches.now in
    let end : drawing_end d - 0 ≡ c.args.end = omega (arith, c.requires.end) in
    let few : count_from (drawing_spot d) 0 (drawing_end d - 0) ≡ count_unstayed (drawing_spot d) c.args.end =
    ap (count_from (drawing_spot d) 0) end ∙ count_from_start (drawing_spot d) c.args.end in
    let all : patched + (count_from (drawing_spot d) 0 (drawing_end d - 0) + 0)
    ≡ patched + count_unstayed (drawing_spot d) c.args.end = omega (arith, few) in
    raised_none c.paint_drawing.new.meter (omega (arith, c.bytes-bytes.type_inv, c.bytes-bytes.ensures))
    ∙ c.paint_drawing.ensures.painted.counted 0
    ∙ c.write_patches.ensures.counted (count_from (drawing_spot d) 0 (drawing_end d - 0) + 0)
    ∙ ap (raised c.args.meter.now Bytes) all
