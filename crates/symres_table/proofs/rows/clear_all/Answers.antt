use Rattle.symres_table.proofs.Common.{ClearedWhere, subst, sym, take, take_all, take_more, ◌≡◌}
use Rattle.symres_table.proofs.Cleared.{cleared_start}
use Rattle.symres_table.proofs.Naming.{nothing}
use Rattle.symres_table.proofs.rows.clear_all.Goals as goal

pub loop-symbol-init : goal.loop-symbol-init
loop-symbol-init c = cleared_start _ _

pub loop-symbol-preserved : goal.loop-symbol-preserved
loop-symbol-preserved c =
    let i = c.loop-symbol.symbol-index in
    let ss = c.args.symbols.now in
    subst (λ xs. ClearedWhere c.args.key.0 xs c.args.table.now.items c.clear_visible.new.table.items)
    (sym (take_more ss i nothing c.loop-symbol-test.true))
    (c.clear_visible.ensures (take i ss) c.args.table.now.items c.loop-symbol.invariant)

pub returns : goal.returns
returns c =
    let all : take c.loop-symbol.symbol-index c.args.symbols.now ≡ c.args.symbols.now =
    take_all _ c.args.symbols.now c.loop-symbol-test.false in
    subst (λ ss. ClearedWhere c.args.key.0 ss c.args.table.now.items c.loop-symbol.table.items) all
    c.loop-symbol.invariant
