use Rattle.symres_table.proofs.Common.{Holds, subst, sym, take, take_more}
use Rattle.symres_table.proofs.Naming.{nothing}
use Rattle.symres_table.proofs.rows.hold_all.Goals as goal

pub returns-in-Err-clause-held : goal.returns-in-Err-clause-held
returns-in-Err-clause-held c =
    c.in-Err.ensures.refused (take c.loop-at.at c.args.symbols.now) c.args.table.now.items c.loop-at.invariant

pub loop-at-preserved : goal.loop-at-preserved
loop-at-preserved c =
    let i = c.loop-at.at in
    let ss = c.args.symbols.now in
    subst (λ xs. Holds xs c.args.table.now.items c.hold.new.table.items)
    (sym (take_more ss i nothing c.loop-at-test.true))
    (c.in-Ok.ensures.ok (take i ss) c.args.table.now.items c.loop-at.invariant)
