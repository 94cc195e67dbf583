-- One row a step.
use Rattle.emit.proofs.Common.{Bool, IsRowAt, List, Piece, SectionRef, Some, ap, arith, drop, get_or, is_some, length}
use Rattle.emit.proofs.Common.{length-drop, length-map, map, map-append, option_map, piece_in, rows_in, slice_get}
use Rattle.emit.proofs.Common.{slice_get-map, subst, sym, take, take_all, vec_items, ◌-◌, ◌<◌, ◌∙◌, ◌≡◌, ◌≤◌}
use Rattle.emit.proofs.AllRows.{all_rows, one_row}
use Rattle.emit.proofs.Lists.{mapped_at}
use Rattle.emit.proofs.pieces.image_rows.Goals as goal

pub loop-row-preserved : goal.loop-row-preserved
loop-row-preserved g c =
    let p = c.args.sources.now.project.now in
    let stays : SectionRef → Bool = λ k. is_some (g.E.PreviousLinkInfo.range c.args.sources.now.previous.now k) in
    let rs = c.args.sources.now.indexed_layout.now.rows.items in
    let starts = c.args.starts.now in
    let k = c.loop-row.row-index in
    let same = c.deref-row-items.ensures.value in
    let low : k < length rs = subst (λ l. k < length l) same c.loop-row-test.true in
    let at = c.loop-row.at in
    let items = c.as_slice-row.result.now in
    let row : List Piece = map (piece_in p) items in
    let long : length row ≡ length items = length-map items (piece_in p) in
    let many : length (rows_in p rs) ≡ length rs = length-map (map vec_items rs) _ ∙ length-map rs vec_items in
    let here : slice_get (rows_in p rs) k ≡ Some row =
    slice_get-map (map (piece_in p)) (map vec_items rs) k
    ∙ ap (option_map (map (piece_in p))) (mapped_at vec_items rs k c.row-item.result low
    (c.row-item.is ∙ ap (λ l. get_or l k c.row-item.result) same))
    ∙ ap (λ l. Some (map (piece_in p) l)) (sym c.as_slice-row.ensures.value) in
    let within : at ≤ length starts = c.loop-row.invariant.within in
    let left : length (drop at starts) ≡ length starts - at = length-drop at starts in
    let whole : take (length starts - at) (drop at starts) ≡ drop at starts =
    take_all (length starts - at) (drop at starts) (omega (arith, left)) in
    one_row p stays c.args.sources.now.indexed_layout.now c.args.sources.now.relocated.now
    (rows_in p rs) starts k at c.taken-at.result row c.in_ok-drawn.drawn.items
    (map vec_items c.loop-row.pieces.items) _ here (omega (arith, low, many))
    (omega (arith, c.taken-at.ensures.few))
    (λ fits. c.taken-at.ensures.all (omega (arith, fits, long)) ∙ sym long)
    (λ l q same sources placed.
    c.in_ok-drawn.ensures l q same sources (subst (λ ss. IsRowAt p l.layout row ss q) (sym whole) placed))
    (ap (map vec_items) c.in_ok-push.ensures.items ∙ map-append vec_items c.loop-row.pieces.items _)
    c.loop-row.invariant

pub returns : goal.returns
returns g c l same sources placed =
    let p = c.args.sources.now.project.now in
    let stays : SectionRef → Bool = λ k. is_some (g.E.PreviousLinkInfo.range c.args.sources.now.previous.now k) in
    let rs = c.args.sources.now.indexed_layout.now.rows.items in
    let many : length (rows_in p rs) ≡ length rs = length-map (map vec_items rs) _ ∙ length-map rs vec_items in
    all_rows p stays c.args.sources.now.indexed_layout.now c.args.sources.now.relocated.now
    (rows_in p rs) c.args.starts.now l c.loop-row.row-index
    c.loop-row.at (map vec_items c.loop-row.pieces.items)
    (omega (arith, c.loop-row-test.false, many, ap length c.deref-row-items.ensures.value)) same sources placed
    c.loop-row.invariant
