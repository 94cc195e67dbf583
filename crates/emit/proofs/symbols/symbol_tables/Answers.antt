-- One symbol a step.
use Rattle.emit.proofs.Common.{All, AreTablesFor, HasFacts, ap, arith, length, subst, sym, take, take_all, valued_in}
use Rattle.emit.proofs.Common.{◌<◌, ◌∙◌}
use Rattle.emit.proofs.Lists.{own_member}
use Rattle.emit.proofs.OfSymbols.{no_symbols, symbols_more}
use Rattle.emit.proofs.Sizing.{table_is}
use Rattle.emit.proofs.symbols.symbol_tables.Goals as goal

pub loop-symbol-init : goal.loop-symbol-init
loop-symbol-init c p s all = no_symbols p s c.in_ok-tables.tables c.in_ok-tables.ensures

pub loop-symbol-preserved : goal.loop-symbol-preserved
loop-symbol-preserved c p s all =
    let xs = c.deref-symbol-items.result.now in
    let k = c.loop-symbol.symbol-index in
    let within : k < length xs = omega (arith, c.loop-symbol-test.true) in
    symbols_more p s xs k _ c.add_symbol.new.tables within (own_member xs k _)
    (c.in_ok-add_symbol.ensures p s (valued_in p (take k xs)) (all k _ within) (c.loop-symbol.invariant p s all))

pub returns : goal.returns
returns c p s a values =
    let xs = c.deref-symbol-items.result.now in
    subst (λ zs. AreTablesFor p s zs c.loop-symbol.tables)
    (ap (valued_in p)
    (take_all c.loop-symbol.symbol-index xs c.loop-symbol-test.false ∙ c.deref-symbol-items.ensures.value)
    ∙ sym (table_is p s a c.args.values.now values))
    (c.loop-symbol.invariant p s
    (subst (λ ys. All (HasFacts p s) ys) (sym c.deref-symbol-items.ensures.value) values.facts))
