-- Some of the entries of the row have been added.
use Rattle.place.proofs.Common.{drop, length, row_entries, ◌≡◌}
use Rattle.place.proofs.Column.{Added}
use Rattle.place.proofs.address_column.add_row.Given as goal

abbrev pub invariant-loop-piece : goal.invariant-loop-piece
invariant-loop-piece l = record {
  long : length l.column.items ≡ length l.fn.column.items;
  are : Added l.table l.fn.column.items l.column.items
      (row_entries l.section.0 (drop (length l.yielded) l.row) (drop (length l.yielded) l.starts))
      (row_entries l.section.0 l.row l.starts);
}
