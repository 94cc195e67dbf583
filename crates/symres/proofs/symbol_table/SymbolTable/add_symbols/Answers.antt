use Rattle.symres.proofs.Common.{NamedSymbol, ap, arith, length, length-map, null_symbol, ◌∙◌}
use Rattle.symres.proofs.Doubling.{symbol_more, symbols_all}
use Rattle.symres.proofs.symbol_table.SymbolTable.add_symbols.Goals as goal

pub loop-number-preserved : goal.loop-number-preserved
loop-number-preserved c = record {
  long = c.add_symbol.ensures.long ∙ c.loop-number.invariant.long;
  found = λ p ds symbol_table same.
      symbol_more p c.args.self.now.names ds c.args.place.0 c.loop-number.number c.args.object.now.symbols null_symbol
      c.args.firsts.now.items c.loop-number.firsts.items c.add_symbol.new.firsts.items c.args.faults.now.items
      c.loop-number.faults.items c.add_symbol.new.faults.items
      (omega (
        arith,
        ap length c.symbols.ensures.value,
        length-map c.args.object.now.symbols (λ (s : NamedSymbol). s.symbol),
        c.loop-number-test.true,
      ))
      (λ ds'. c.in_ok-add_symbol.ensures.found p null_symbol ds' symbol_table same)
      (c.loop-number.invariant.found p ds symbol_table same);
}

pub returns-clause-found : goal.returns-clause-found
returns-clause-found c =
    λ p ds symbol_table same b h.
    symbols_all p c.args.self.now.names ds c.args.place.0 c.loop-number.number c.args.object.now.symbols
    c.loop-number.firsts.items c.loop-number.faults.items
    (omega (
      arith,
      ap length c.symbols.ensures.value,
      length-map c.args.object.now.symbols (λ (s : NamedSymbol). s.symbol),
      c.loop-number-test.false,
    ))
    (c.loop-number.invariant.found p ds symbol_table same b h)
