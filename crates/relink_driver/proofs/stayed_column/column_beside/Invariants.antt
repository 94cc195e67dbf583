use Rattle.relink_driver.proofs.Common.{has_stayed_number, previous_state}
use Rattle.relink_driver.proofs.Columns.{ColumnSoFar}
use Rattle.relink_driver.proofs.WhollyStayed.{StillRows}
use Rattle.relink_driver.proofs.stayed_column.column_beside.Given as goal

abbrev pub invariant-loop-place : goal.invariant-loop-place
invariant-loop-place l = record {
  flags : ColumnSoFar (has_stayed_number (previous_state l.previous) l.indexed_layout) l.slices.items l.flags.items
      l.place;
  all_stayed : StillRows (previous_state l.previous) l.indexed_layout l.all_stayed.items l.place;
}
