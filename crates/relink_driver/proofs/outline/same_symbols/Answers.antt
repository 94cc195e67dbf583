use Rattle.relink_driver.proofs.Common.{NamedSymbol, Some, ap, arith, length, map, refl, sym, ◌∙◌}
use Rattle.relink_driver.proofs.Outlines.{again, all_same, named_symbol, read_same, same_more}
use Rattle.relink_driver.proofs.outline.same_symbols.Goals as goal

pub loop-number-preserved : goal.loop-number-preserved
loop-number-preserved c =
    same_more (λ (x : NamedSymbol). x.symbol) (λ (x : NamedSymbol). x.name) named_symbol c.args.a.now.symbols
    c.args.b.now.symbols c.loop-number.number
    (read_same (map (λ (x : NamedSymbol). x.symbol) c.args.a.now.symbols)
    (map (λ (x : NamedSymbol). x.symbol) c.args.b.now.symbols) _ _ c.loop-number.number _
    c.symbols-before.ensures.value c.symbols-now.ensures.value c.loop-number-test.true c.if-before-now.false
    (c.is_same_symbol.ensures.0 c.if-not-is_same_symbol.false))
    (c.name_of.ensures ∙ ap Some (c.is_same_name.ensures.0 c.if-not-is_same_name.false)
    ∙ sym c.name_of-else-not-is_same_symbol.ensures) c.loop-number.invariant

pub returns : goal.returns
returns c =
    let a = ap length c.symbols-before.ensures.value in
    let b = ap length c.symbols-now.ensures.value in (
      λ yes. sym (again c.args.a.now.symbols)
          ∙ all_same (λ (x : NamedSymbol). x.symbol) (λ (x : NamedSymbol). x.name) named_symbol c.args.a.now.symbols
          c.args.b.now.symbols c.loop-number.number (omega (arith, a, b, c.if-before-now.false))
          (omega (arith, a, c.loop-number-test.false, c.loop-number.auto.number-end)) c.loop-number.invariant
          ∙ again c.args.b.now.symbols,
      λ same. refl,
    )
