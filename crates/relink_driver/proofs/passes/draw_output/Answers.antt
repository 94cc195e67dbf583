use Rattle.relink_driver.proofs.Common.{All, ArePatchesOf, Bytes, EndsBy, IsWritten, Layout, List, Patch, ap, arith}
use Rattle.relink_driver.proofs.Common.{image, image_length, known_link, new_link, patch_bytes, project_of, raised}
use Rattle.relink_driver.proofs.Common.{refl, subst, sym, ◌+◌, ◌-◌, ◌∙◌, ◌≡◌}
use Rattle.ldmodel.specs.WorkBound.{bytes_stayed}
use Rattle.relink_driver.proofs.Beside.{drawable_at, drawn_image, end_within, one_placement, stays_of}
use Rattle.relink_driver.proofs.Reading.{bytes_read_nothing}
use Rattle.relink_driver.proofs.passes.draw_output.Goals as goal

pub draw_image-requires-clause-drawable : goal.draw_image-requires-clause-drawable
draw_image-requires-clause-drawable c =
    let h = c.requires.filled.short.placed in
    record {
      layout = h.known.layout;
      names = h.symbol_table;
      is = drawable_at (project_of c.args.context) _ _ _ c.requires.filled;
    }

pub draw_image-requires-clause-patches : goal.draw_image-requires-clause-patches
draw_image-requires-clause-patches c =
    λ s indexed_layout.
    let p = project_of c.args.context in
    let k = c.requires.filled.short.placed.known in
    subst (All (EndsBy (image_length p s))) (sym c.deref.ensures.value)
    (end_within p k.layout s c.args.fields.now.retargeted.items k.link_layout.placed indexed_layout.link_layout.placed
    c.requires.filled.patches.ends)

pub returns-clause-image : goal.returns-clause-image
returns-clause-image c =
    λ t link_layout.
    let p = project_of c.args.context in
    let f = c.requires.filled in
    let k = f.short.placed.known in
    let s = k.layout in
    let a = f.short.placed.symbol_table in
    let drawable = drawable_at p _ _ _ f in
    subst (λ (z : Layout). c.draw_image.new.canvas.bytes ≡ image p z)
    (one_placement p s t k.link_layout.placed link_layout.placed)
    (drawn_image p s a _ c.args.fields.now c.args.canvas.now.bytes c.draw_image.new.canvas.bytes
    c.requires.previous c.is_complete.ensures.none
    (λ old previous. c.is_complete.ensures.sound old (known_link p s a) (stays_of p _ _ _ f old previous))
    f.patches (λ nothing. c.in_ok-draw_image.ensures.image s a drawable nothing)
    (λ old good sound patches before. c.in_ok-draw_image.ensures.redrawn old (new_link p s) a refl drawable good f.good
    sound (subst (ArePatchesOf old (new_link p s)) (sym c.deref.ensures.value) patches) before))

pub returns-clause-reads : goal.returns-clause-reads
returns-clause-reads c =
    let draw_output = c.in_ok-draw_image.ensures.counted in
    bytes_read_nothing _ _ draw_output.0 (omega (arith, c.bytes-bytes.type_inv, c.bytes-bytes.ensures)) draw_output.1

pub returns-clause-counted : goal.returns-clause-counted
returns-clause-counted c =
    λ t link_layout.
    let p = project_of c.args.context in
    let f = c.requires.filled in
    let k = f.short.placed.known in
    let s = k.layout in
    let a = f.short.placed.symbol_table in
    subst (λ (z : Layout). IsWritten p z c.args.stayed_sections.now c.args.fields.now c.args.meter.now
    c.draw_image.new.meter)
    (one_placement p s t k.link_layout.placed link_layout.placed)
    (record {
      bytes = c.in_ok-draw_image.ensures.counted;
      beside = λ old previous some.
          let stayed_sections = stays_of p _ _ _ f old previous in
          c.in_ok-draw_image.ensures.spent old (new_link p s) a refl (drawable_at p _ _ _ f) f.good
          (c.is_complete.ensures.complete old (known_link p s a) stayed_sections some)
          (c.is_complete.ensures.sound old (known_link p s a) stayed_sections)
          ∙ ap (λ (qs : List Patch). raised c.args.meter.now Bytes
          (patch_bytes qs + (image_length p s - bytes_stayed old (new_link p s)))) c.deref.ensures.value;
    })
