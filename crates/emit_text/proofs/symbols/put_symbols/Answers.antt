-- A line for each symbol.
use Rattle.emit_text.proofs.Common.{ap, arith, at_drop_all, symbols_text, ◌∙◌}
use Rattle.emit_text.proofs.Appending.{written_step, written_end}
use Rattle.emit_text.proofs.SideBySide.{entry_left}
use Rattle.emit_text.proofs.symbols.put_symbols.Goals as goal

pub loop-place-preserved : goal.loop-place-preserved
loop-place-preserved g c =
    let list = g.S.MapSymbols.list c.args.symbols.now in
    written_step _ _ _ _ _ _ c.in_ok-put_symbol.ensures
    (ap (symbols_text c.args.project.now)
    (entry_left list c.loop-place.place c.symbol-symbol.result c.symbol-symbol.ensures))
    c.loop-place.invariant

pub returns : goal.returns
returns g c =
    c.in_ok-move_to.ensures.text
    ∙ written_end _ _ _
    (at_drop_all (symbols_text c.args.project.now)
    (g.S.MapSymbols.list c.args.symbols.now) c.loop-place.place (omega (arith, c.count-place-end.ensures)))
    c.loop-place.invariant
