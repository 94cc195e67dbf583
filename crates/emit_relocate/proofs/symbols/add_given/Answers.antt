use Rattle.emit_relocate.proofs.Common.{AddsSome, AddsSymbols, IfOk-weaker, KeepsFacts, List, OutputSymbol, [], ap}
use Rattle.emit_relocate.proofs.Common.{arith, drop, plus_symbols, subst, sym, ◌∙◌, ◌∷◌}
use Rattle.emit_relocate.proofs.Counted.{counts_more}
use Rattle.emit_relocate.proofs.Picking.{adds_at_most}
use Rattle.emit_relocate.proofs.symbols.add_given.Goals as goal

pub returns-clause-symbols : goal.returns-clause-symbols
returns-clause-symbols c =
    IfOk-weaker c.plus_last.result _ _
    (λ t e p s h.
    subst (λ (xs : List OutputSymbol). AddsSymbols p s (c.args.name.now ∷ []) xs c.add_unnamed.new.list.items)
    c.reserve.ensures.items (c.in_ok-add_unnamed.ensures.symbol p s h))
    c.plus_last.ensures

pub returns-clause-facts : goal.returns-clause-facts
returns-clause-facts c =
    IfOk-weaker c.plus_last.result _ _
    (λ t e p s h.
    subst (λ (xs : List OutputSymbol). KeepsFacts p s xs c.add_unnamed.new.list.items)
    c.reserve.ensures.items (c.in_ok-add_unnamed.ensures.facts p s h))
    c.plus_last.ensures

pub returns-clause-picked : goal.returns-clause-picked
returns-clause-picked c =
    IfOk-weaker c.plus_last.result _ _
    (λ t e.
    subst (λ (xs : List OutputSymbol). AddsSome (c.args.name.now ∷ []) xs c.add_unnamed.new.list.items)
    c.reserve.ensures.items
    (adds_at_most c.args.name.now c.reserve.new.list.items c.add_unnamed.new.list.items
    c.in_ok-add_unnamed.ensures.name))
    c.plus_last.ensures

pub returns-clause-sizes : goal.returns-clause-sizes
returns-clause-sizes c =
    IfOk-weaker c.plus_last.result _ _
    (λ t e p s h was.
    counts_more p s (c.args.name.now ∷ []) c.reserve.new.list.items c.add_unnamed.new.list.items c.len-count.result
    (record { count = 0; names = 0 }) c.args.counted t (c.in_ok-add_unnamed.ensures.symbol p s h)
    (omega (arith, c.len-count.ensures, c.reserve.new.list.ok.0))
    (was ∙ ap (plus_symbols (record { count = 0; names = 0 })) (sym c.reserve.ensures.items))
    (e
    ∙ ap (λ (xs : List OutputSymbol). plus_symbols c.args.counted (drop c.len-count.result xs)) c.deref.ensures.value))
    c.plus_last.ensures
