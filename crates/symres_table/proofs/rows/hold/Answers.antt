use Rattle.symres_table.proofs.Common.{declared}
use Rattle.symres_table.proofs.Growing.{both_ok}
use Rattle.symres_table.proofs.Holding.{holds_push}
use Rattle.symres_table.proofs.rows.hold.Goals as goal

pub returns-clause-ok : goal.returns-clause-ok
returns-clause-ok c =
    both_ok c.hold_row.result c.hold_row.ensures.ok c.hold_row.ensures.ok (λ e _. λ ss was r.
    holds_push ss c.args.symbol (declared 0 c.args.symbol) was c.args.table.now.items c.index_mut.result.now
    c.hold_row.new.row c.requires.visible c.requires.known c.index_mut.ensures.value e c.hold_row.ensures.capacity r)
