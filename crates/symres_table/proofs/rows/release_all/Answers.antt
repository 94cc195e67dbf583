use Rattle.symres_table.proofs.Common.{Holds, drop, drop_more, subst, ◌+◌}
use Rattle.symres_table.proofs.Cleared.{keeps_both}
use Rattle.symres_table.proofs.Naming.{nothing}
use Rattle.symres_table.proofs.rows.release_all.Goals as goal

pub loop-symbol-preserved : goal.loop-symbol-preserved
loop-symbol-preserved c =
    let i = c.loop-symbol.symbol-index in
    let ss = c.args.symbols.now in
    let inv = c.loop-symbol.invariant in
    record {
      held = λ was h. c.release.ensures.held (drop (i + 1) ss) was
          (subst (λ xs. Holds xs was c.loop-symbol.table.items) (drop_more ss i nothing c.loop-symbol-test.true)
          (inv.held was h));
      room = keeps_both c.args.table.now.items c.loop-symbol.table.items c.release.new.table.items inv.room
          c.release.ensures.room;
    }
