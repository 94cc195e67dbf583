use Rattle.symres_table.proofs.Cleared.{cleared_all, cleared_end}
use Rattle.symres_table.proofs.rows.remove_all.Goals as goal

pub returns-clause-table : goal.returns-clause-table
returns-clause-table c =
    cleared_end c.args.key.0 c.args.symbols.now c.args.table.now.items c.clear_all.new.table.items
    (cleared_all c.args.key.0 c.args.symbols.now c.args.table.now.items c.mark_last_all.new.table.items
    c.clear_all.new.table.items c.mark_last_all.ensures c.clear_all.ensures)
