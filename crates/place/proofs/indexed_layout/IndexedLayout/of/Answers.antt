use Rattle.place.proofs.Common.{Each, EachLater, Global, IsColumn, IsOwned, List, Vec, all_entries, ap, flat_map}
use Rattle.place.proofs.Common.{provided, rows, subst, sym, ◌∙◌}
use Rattle.ldmodel_laws.specs.PlacedOnce.{Differ}
use Rattle.ldmodel.specs.Rows.{Piece}
use Rattle.ldmodel.specs.declared.rows.Piece as code
use Rattle.place.proofs.AllNumbered.{all_numbered}
use Rattle.place.proofs.Owned.{all_inputs, all_owned}
use Rattle.place.proofs.Placing.{all_places}
use Rattle.place.proofs.indexed_layout.IndexedLayout.of.Goals as goal

pub returns-clause-indexed_layout : goal.returns-clause-indexed_layout
returns-clause-indexed_layout c = λ s placement.
    let p = c.args.project.now in
    let placed = c.placed_are_rows.ensures p (provided p) s placement.placed in
    let flat : List (List Piece) → List Piece = flat_map (λ (row : List Piece). row) in
    let inputs = all_inputs p (c.live_by_path.ensures.in_order p) in
    let distinct = c.objects_are_named.ensures.distinct in
    let owned : Each (IsOwned p) (flat (rows p)) =
    all_owned p c.objects_are_named.ensures.named (c.sections_of_objects.ensures p) (flat (rows p)) inputs in
    let starts = c.pieces-starts.result.now in
    let column : IsColumn c.args.table (all_entries 0 c.args.rows.items starts) c.in_ok-addresses.addresses.items =
    subst (λ (rows : List (Vec code.Piece Global)). IsColumn c.args.table (all_entries 0 rows starts)
    c.in_ok-addresses.addresses.items) c.deref.ensures.value c.in_ok-addresses.ensures in
    all_places p s starts _
    distinct
    (record {
      once = subst (EachLater Differ) (ap flat (sym placed)) (c.once_in_rows.ensures p distinct c.are_numbered.ensures);
      owned = subst (Each (IsOwned p)) (ap flat (sym placed)) owned;
      spread = c.nothing_overlaps.ensures p.script (rows p) (provided p) s placement.placed;
    })
    (placed ∙ sym c.requires.rows)
    (c.pieces-starts.ensures ∙ placement.places.starts) c.requires.table c.requires.rows placement
    (all_numbered p c.args.table distinct c.requires.table (c.sections_of_objects.ensures p)
    c.args.rows.items starts c.requires.rows owned inputs)
    column
