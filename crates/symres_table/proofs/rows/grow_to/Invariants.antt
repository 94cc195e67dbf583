use Rattle.symres_table.proofs.Common.{RowsGrow, length, ◌+◌, ◌-◌}
use Rattle.symres_table.proofs.rows.grow_to.Given as goal

abbrev pub invariant-loop-table : goal.invariant-loop-table
invariant-loop-table l = RowsGrow l.fn.table.items l.table.items

abbrev pub decreases-loop-table : goal.decreases-loop-table
decreases-loop-table l = l.name + 1 - length l.table.items
