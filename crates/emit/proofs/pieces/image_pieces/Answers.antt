-- The rows are those of the layout.
use Rattle.emit.proofs.Common.{Each, IfOk-weaker, IsSized, known_link, provided, refl, subst, sym, ◌∙◌}
use Rattle.emit.proofs.AllRows.{all_found}
use Rattle.emit.proofs.OfSizes.{rows_sized}
use Rattle.emit.proofs.pieces.image_pieces.Goals as goal

pub returns : goal.returns
returns g c =
    let p = c.args.sources.now.project.now in
    IfOk-weaker c.image_rows.result _ _
    (λ v h s a indexed_layout fields.
    let placed = c.placed_are_rows.ensures p (provided p) s indexed_layout.link_layout.placed in
    h (known_link p s a) refl (record { indexed_layout = indexed_layout; runs = fields })
    (record {
      placed = placed ∙ sym indexed_layout.rows;
      begun = c.pieces-starts.ensures ∙ indexed_layout.link_layout.places.starts;
      sized = subst (Each (Each (IsSized p))) (sym indexed_layout.rows)
          (rows_sized p c.inputs-inputs.ensures.distinct c.are_numbered.ensures
          (c.live_by_path.ensures.in_order p).0 (c.live_by_path.ensures.in_order p).1);
      found = all_found s _ placed
          (c.once_in_rows.ensures p c.inputs-inputs.ensures.distinct c.are_numbered.ensures);
    }))
    c.image_rows.ensures
