use Rattle.symres_table.proofs.Common.{false, is_local, ◌≡◌}
use Rattle.symres_table.proofs.Cleared.{cleared_step}
use Rattle.symres_table.proofs.Naming.{visible_is}
use Rattle.symres_table.proofs.rows.clear_visible.Goals as goal

pub returns-then-is_visible : goal.returns-then-is_visible
returns-then-is_visible c = λ ss was r.
    let seen : is_local c.args.symbol.symbol.binding ≡ false =
    visible_is (is_local c.args.symbol.symbol.binding) c.if-is_visible.ensures in
    cleared_step c.args.key.0 ss c.args.symbol was c.args.table.now.items c.index_mut.result.now c.clear_once.new.row
    seen (c.requires seen) c.index_mut.ensures.value c.clear_once.ensures.items c.clear_once.ensures.capacity r
