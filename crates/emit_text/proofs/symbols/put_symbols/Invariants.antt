-- With the lines still to come, the text is the whole one.
use Rattle.emit_text.proofs.Common.{drop, symbols_text, ◌++◌, ◌≡◌}
use Rattle.emit_text.proofs.symbols.put_symbols.Given as goal

abbrev pub invariant-loop-place : goal.invariant-loop-place
invariant-loop-place g l =
    (l.text.items ++ l.lines) ++ symbols_text l.project
    (drop l.place (g.S.MapSymbols.list l.symbols))
    ≡ l.initial.text.items ++ symbols_text l.project
    (g.S.MapSymbols.list l.symbols)
