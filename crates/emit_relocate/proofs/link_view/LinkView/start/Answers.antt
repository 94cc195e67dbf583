-- The key of an object is its place.
use Rattle.emit_relocate.proofs.Common.{KnownLink, PlacedPiece, ap, object_name, option_map, placed_part, sym, ◌∙◌}
use Rattle.emit_relocate.proofs.link_view.LinkView.start.Goals as goal

pub returns : goal.returns
returns c l v =
    c.start_in.ensures l.project l.layout v.indexed_layout
    ∙ sym (ap
    (λ n. option_map (λ (x : PlacedPiece). x.start)
    (placed_part l.layout (object_name l.project n) c.args.section.part))
    (ap (λ (m : KnownLink). m.number c.args.section.object.0) v.link))
