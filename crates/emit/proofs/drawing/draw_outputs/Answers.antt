-- The drawing is that of the link.
use Rattle.emit.proofs.Common.{ArePartsOf, image_length, on_ok_weaker, provided, rows, subst, sym, ◌^◌, ◌≤◌}
use Rattle.emit.proofs.Staying.{are_kept, have_stayed, none_stays}
use Rattle.emit.proofs.Whole.{drawing_joined, drawing_of, ends_in, whole, whole_stands}
use Rattle.emit.proofs.drawing.draw_outputs.Goals as goal

pub redraw-requires-clause-drawing : goal.redraw-requires-clause-drawing
redraw-requires-clause-drawing c =
    let p = c.args.project.now in
    let h = c.requires.outputs in
    let s = h.layout in
    let x = c.in_ok-parts.parts in
    let are = c.in_ok-parts.ensures s h.stays h.are in
    c.joined_is_whole.ensures.stands _ _
    (drawing_joined p s h.stays x _ (record {
      headers = c.deref.ensures.value;
      sections = c.deref-2.ensures.value;
      tail = c.lend_parts-tail.ensures;
    }) are)
    (whole_stands p s h.stays x _ (record {
      headers = c.deref.ensures.value;
      sections = c.deref-2.ensures.value;
      tail = c.lend_parts-tail.ensures;
    }) are
    (c.drawing_stands.ensures p s)
    (c.placement_is_in_memory.ensures p.script (rows p) (provided p) s h.are.indexed_layout.link_layout.placed)
    h.are.short)

pub redraw-requires-clause-patches : goal.redraw-requires-clause-patches
redraw-requires-clause-patches c =
    let p = c.args.project.now in
    let h = c.requires.outputs in
    let s = h.layout in
    ends_in p s h.stays c.in_ok-parts.parts c.deref.result c.deref-2.result c.lend_parts-tail.result c.args.patches.now
    (c.drawing_is_image.ensures.end p s) c.joined_is_whole.ensures.alike c.deref.ensures.value c.deref-2.ensures.value
    c.lend_parts-tail.ensures
    (c.in_ok-parts.ensures s h.stays h.are) (c.requires.patches s h.are.indexed_layout)

pub returns-clause-image : goal.returns-clause-image
returns-clause-image c =
    let p = c.args.project.now in
    let x = c.in_ok-parts.parts in
    on_ok_weaker c.redraw.result
    (λ h s stays outputs none.
    let are = c.in_ok-parts.ensures s stays outputs in
    h p s
    (whole p s stays x _ (record {
      headers = c.deref.ensures.value;
      sections = c.deref-2.ensures.value;
      tail = c.lend_parts-tail.ensures;
    }) are)
    (c.joined_is_whole.ensures.alike _ _ (drawing_joined p s stays x _ (record {
      headers = c.deref.ensures.value;
      sections = c.deref-2.ensures.value;
      tail = c.lend_parts-tail.ensures;
    }) are))
    (none_stays p s stays are.drawn.wholes none are.drawn.kept)
    (drawing_of p s stays x _ (record {
      headers = c.deref.ensures.value;
      sections = c.deref-2.ensures.value;
      tail = c.lend_parts-tail.ensures;
    }) are))
    c.redraw.ensures.image

pub returns-clause-redrawn : goal.returns-clause-redrawn
returns-clause-redrawn c =
    let x = c.in_ok-parts.parts in
    on_ok_weaker c.redraw.result
    (λ h old new stays same outputs good_old good_new said patched before.
    let are = subst (λ pr. ArePartsOf pr new.layout stays x) (sym same)
    (c.in_ok-parts.ensures new.layout stays outputs) in
    h old new
    (whole new.project new.layout stays x _ (record {
      headers = c.deref.ensures.value;
      sections = c.deref-2.ensures.value;
      tail = c.lend_parts-tail.ensures;
    }) are)
    (c.joined_is_whole.ensures.alike _ _ (drawing_joined new.project new.layout stays x _ (record {
      headers = c.deref.ensures.value;
      sections = c.deref-2.ensures.value;
      tail = c.lend_parts-tail.ensures;
    }) are))
    good_old good_new (record {
      drawing = drawing_of new.project new.layout stays x _ (record {
        headers = c.deref.ensures.value;
        sections = c.deref-2.ensures.value;
        tail = c.lend_parts-tail.ensures;
      }) are;
      kept = have_stayed (record {
        linked = c.stayed_in_both.ensures.linked;
        all = c.sections_in_file.ensures.all;
      }) old new stays are.drawn.wholes are.drawn.kept said;
      patched = patched;
    }) before)
    c.redraw.ensures.redrawn

pub returns-clause-work : goal.returns-clause-work
returns-clause-work c =
    let p = c.args.project.now in
    let x = c.in_ok-parts.parts in
    on_ok_weaker c.redraw.result
    (λ h old new stays same outputs good all few.
    let are = subst (λ pr. ArePartsOf pr new.layout stays x) (sym same)
    (c.in_ok-parts.ensures new.layout stays outputs) in
    h old new
    (whole new.project new.layout stays x _ (record {
      headers = c.deref.ensures.value;
      sections = c.deref-2.ensures.value;
      tail = c.lend_parts-tail.ensures;
    }) are)
    (c.joined_is_whole.ensures.alike _ _ (drawing_joined new.project new.layout stays x _ (record {
      headers = c.deref.ensures.value;
      sections = c.deref-2.ensures.value;
      tail = c.lend_parts-tail.ensures;
    }) are))
    (whole_stands new.project new.layout stays x _ (record {
      headers = c.deref.ensures.value;
      sections = c.deref-2.ensures.value;
      tail = c.lend_parts-tail.ensures;
    }) are
    (c.drawing_stands.ensures new.project new.layout)
    (c.placement_is_in_memory.ensures p.script (rows p)
    (provided p) new.layout outputs.indexed_layout.link_layout.placed)
    (subst (λ pr. image_length pr new.layout ≤ 2 ^ 28) (sym same) outputs.short))
    good
    (drawing_of new.project new.layout stays x _ (record {
      headers = c.deref.ensures.value;
      sections = c.deref-2.ensures.value;
      tail = c.lend_parts-tail.ensures;
    }) are)
    (are_kept (record { linked = c.stayed_in_both.ensures.linked; all = c.sections_in_file.ensures.all })
    old new stays are.drawn.wholes are.drawn.kept all)
    few)
    c.redraw.ensures.work

pub returns-clause-spent : goal.returns-clause-spent
returns-clause-spent c =
    let p = c.args.project.now in
    let x = c.in_ok-parts.parts in
    on_ok_weaker c.redraw.result
    (λ h old new stays same outputs good all said.
    let are = subst (λ pr. ArePartsOf pr new.layout stays x) (sym same)
    (c.in_ok-parts.ensures new.layout stays outputs) in
    h old new
    (whole new.project new.layout stays x _ (record {
      headers = c.deref.ensures.value;
      sections = c.deref-2.ensures.value;
      tail = c.lend_parts-tail.ensures;
    }) are)
    (c.joined_is_whole.ensures.alike _ _ (drawing_joined new.project new.layout stays x _ (record {
      headers = c.deref.ensures.value;
      sections = c.deref-2.ensures.value;
      tail = c.lend_parts-tail.ensures;
    }) are))
    (whole_stands new.project new.layout stays x _ (record {
      headers = c.deref.ensures.value;
      sections = c.deref-2.ensures.value;
      tail = c.lend_parts-tail.ensures;
    }) are
    (c.drawing_stands.ensures new.project new.layout)
    (c.placement_is_in_memory.ensures p.script (rows p)
    (provided p) new.layout outputs.indexed_layout.link_layout.placed)
    (subst (λ pr. image_length pr new.layout ≤ 2 ^ 28) (sym same) outputs.short))
    good
    (drawing_of new.project new.layout stays x _ (record {
      headers = c.deref.ensures.value;
      sections = c.deref-2.ensures.value;
      tail = c.lend_parts-tail.ensures;
    }) are)
    (are_kept (record { linked = c.stayed_in_both.ensures.linked; all = c.sections_in_file.ensures.all })
    old new stays are.drawn.wholes are.drawn.kept all)
    (have_stayed (record { linked = c.stayed_in_both.ensures.linked; all = c.sections_in_file.ensures.all })
    old new stays are.drawn.wholes are.drawn.kept said))
    c.redraw.ensures.spent

pub returns-clause-counted : goal.returns-clause-counted
returns-clause-counted c = on_ok_weaker c.redraw.result (λ h. (_, h)) c.redraw.ensures.counted
