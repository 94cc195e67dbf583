use Rattle.symres_table.proofs.Common.{Appended, arith, get_or, get_or_default, subst, sym, take, take_all, take_more}
use Rattle.symres_table.proofs.Common.{◌≡◌}
use Rattle.symres_table.proofs.Adding.{room_left}
use Rattle.symres_table.proofs.Settling.{appended_start, appended_grows}
use Rattle.symres_table.proofs.Naming.{nothing}
use Rattle.symres_table.proofs.rows.append_all.Goals as goal

pub loop-symbol-init : goal.loop-symbol-init
loop-symbol-init c = appended_start _ _

pub append_visible-requires-clause-room : goal.append_visible-requires-clause-room
append_visible-requires-clause-room c = λ vis d.
    let inv = appended_grows _ _ _ _ c.loop-symbol.invariant in
    let i = c.loop-symbol.symbol-index in
    let ss = c.args.symbols.now in
    let known = c.requires.known i nothing c.loop-symbol-test.true vis in
    room_left ss i (get_or ss i nothing) c.args.table.now.items c.loop-symbol.table.items d c.loop-symbol-test.true
    (get_or_default ss i nothing (get_or ss i nothing) c.loop-symbol-test.true) vis
    (omega (arith, known, inv.long)) c.requires.room inv

pub loop-symbol-preserved : goal.loop-symbol-preserved
loop-symbol-preserved c =
    let i = c.loop-symbol.symbol-index in
    let ss = c.args.symbols.now in
    subst (λ xs. Appended c.args.key.0 xs c.args.table.now.items c.append_visible.new.table.items)
    (sym (take_more ss i nothing c.loop-symbol-test.true))
    (c.append_visible.ensures (take i ss) c.args.table.now.items c.loop-symbol.invariant)

pub returns : goal.returns
returns c =
    let all : take c.loop-symbol.symbol-index c.args.symbols.now ≡ c.args.symbols.now =
    take_all _ c.args.symbols.now c.loop-symbol-test.false in
    subst (λ ss. Appended c.args.key.0 ss c.args.table.now.items c.loop-symbol.table.items) all c.loop-symbol.invariant
