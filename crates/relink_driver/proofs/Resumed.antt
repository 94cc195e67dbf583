-- A link over a previous one may take the previous layout over, up to the first row that differs.
use Rattle.relink_driver.proofs.Common.{AreSameBefore, Each, GoodLink, IsFirstChanged, IsNext, IsOwned, IsPlacement}
use Rattle.relink_driver.proofs.Common.{IsPreviousOf, IsResumable, List, PreviousState, Project, Statement, [], ap}
use Rattle.relink_driver.proofs.Common.{entries_from, entries_in, first_changed, flat_map, map, provided, rows_in}
use Rattle.relink_driver.proofs.Common.{slice_index_or, subst, sym, take, true, ℕ, ◌∙◌, ◌≡◌, ◌≤◌}
use Rattle.std.specs.Global.{Vec}
use Rattle.ldmodel.specs.Rows as model
use Rattle.ldmodel.specs.declared.rows.Piece.{Piece}
use Rattle.relink_driver.proofs.SameRows.{fewest, same_before}

module _ (old : GoodLink) (new : Project) (x : PreviousState) (previous : IsPreviousOf old new x)
    (rows : List (Vec Piece))
    (are : rows_in new rows ≡ model.rows new) where
  abbrev first : ℕ
  first = first_changed x new x.snapshot.indexed_layout.rows.items rows

  pub are_same : AreSameBefore old.project new first
  are_same k below =
      ap (λ (r : List (List model.Piece)). slice_index_or r k []) (sym previous.table.indexed_layout.rows)
      ∙ same_before old.project new x previous.origins previous.replaced x.snapshot.indexed_layout.rows.items rows k
      below
      ∙ ap (λ (r : List (List model.Piece)). slice_index_or r k []) are

  pub is_kept : x.same_script ≡ true → IsResumable new.script
      (model.rows new) x.snapshot.indexed_layout.link_layout.placement first
  is_kept same = record {
    earlier = model.rows old.project;
    earlier_provided = provided old.project;
    placed = subst (λ (script : List Statement).
        IsPlacement script (model.rows old.project) (provided old.project)
        x.snapshot.indexed_layout.link_layout.placement)
        (previous.script same)
        previous.table.indexed_layout.link_layout.kept;
    same = are_same;
  }

  module _ (next : IsNext old.project new x) (placed : map entries_in old.layout.sections ≡ model.rows old.project)
    where
      owned : Each (IsOwned old.project)
          (flat_map (λ (row : List model.Piece). row) (rows_in old.project x.snapshot.indexed_layout.rows.items))
      owned =
          subst (λ (r : List (List model.Piece)).
          Each (IsOwned old.project) (flat_map (λ (row : List model.Piece). row) r)) (placed
          ∙ sym previous.table.indexed_layout.rows)
          previous.table.indexed_layout.apart.owned

      pub is_first : IsFirstChanged old.project new first
      is_first n same =
          subst (λ (r : List (List model.Piece)). entries_from first r ≤ entries_from n r) are
          (fewest old.project new x previous.origins previous.replaced previous.table.names next.known
          x.snapshot.indexed_layout.rows.items rows n
          (ap (take n) previous.table.indexed_layout.rows ∙ same ∙ ap (take n) (sym are)) owned)
