-- The column of the rows so far.
use Rattle.place.proofs.Common.{all_entries, drop}
use Rattle.place.proofs.Column.{ColumnOf}
use Rattle.place.proofs.address_column.address_column.Given as goal

abbrev pub invariant-loop-number : goal.invariant-loop-number
invariant-loop-number l =
    ColumnOf l.table l.column.items (all_entries l.number (drop l.number l.rows) l.left)
    (all_entries 0 l.rows l.starts)
