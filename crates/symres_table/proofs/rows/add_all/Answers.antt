use Rattle.symres_table.proofs.Common.{arith}
use Rattle.symres_table.proofs.Settling.{table_added, table_last, all_grow, appended_grows}
use Rattle.symres_table.proofs.rows.add_all.Goals as goal

pub returns-then-at-count-clause-table : goal.returns-then-at-count-clause-table
returns-then-at-count-clause-table c = λ xs ys split last t room.
    table_added c.args.places.now c.args.at c.args.key.0 c.args.symbols.now c.args.table.now.items
    c.append_all.new.table.items c.settle_all.new.table.items c.append_all.ensures c.settle_all.ensures xs ys split t
    room

pub returns-then-at-count-clause-grows : goal.returns-then-at-count-clause-grows
returns-then-at-count-clause-grows c =
    all_grow c.args.places.now c.args.at c.args.key.0 c.args.symbols.now c.args.table.now.items
    c.append_all.new.table.items c.settle_all.new.table.items c.append_all.ensures c.settle_all.ensures

pub returns-else-at-count-clause-table : goal.returns-else-at-count-clause-table
returns-else-at-count-clause-table c = λ xs ys split last t room.
    table_last c.args.key.0 c.args.symbols.now c.args.table.now.items c.append_all.new.table.items c.append_all.ensures
    xs ys (last (omega (arith, c.if-at-count.false))) t room

pub returns-else-at-count-clause-grows : goal.returns-else-at-count-clause-grows
returns-else-at-count-clause-grows c =
    appended_grows c.args.key.0 c.args.symbols.now c.args.table.now.items c.append_all.new.table.items
    c.append_all.ensures
