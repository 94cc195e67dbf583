use Rattle.relink_driver.proofs.Common.{NamedSymbol, Symbol, ap, arith, is_local, length, length-map, sym, ◌∙◌, ◌≡◌}
use Rattle.relink_driver.proofs.Symbols.{all_values, member_at, no_values, one_value_more, symbol_is}
use Rattle.relink_driver.proofs.symbol_values.add_object.Goals as goal

pub loop-number-init : goal.loop-number-init
loop-number-init c = record {
  room = omega (arith, c.in_ok-reserve.ensures.ok);
  so_far = no_values c.args.sources c.args.place c.args.object.now c.args.values.now.items _
      c.in_ok-reserve.ensures.items;
}

pub symbol_value-requires : goal.symbol_value-requires
symbol_value-requires c = record {
  seen = λ seen.
      let symbols = c.symbols-symbols.result.now in
      let n = c.loop-number.number in
      let many : length symbols ≡ length c.args.object.now.symbols =
      ap length c.symbols-symbols.ensures.value
      ∙ length-map c.args.object.now.symbols (λ (s : NamedSymbol). s.symbol) in
      let at = member_at c.args.object.now.symbols n (omega (arith, many, c.loop-number-test.true)) in
      c.requires.seen n at.0 at.1 (ap (λ (y : Symbol). is_local y.binding)
      (sym (symbol_is symbols c.args.object.now.symbols n _ at.0 c.symbols-symbols.ensures.value at.1)) ∙ seen);
}

pub push_reserved-requires : goal.push_reserved-requires
push_reserved-requires c = omega (arith, c.loop-number.invariant.room, c.loop-number-test.true)

pub loop-number-preserved : goal.loop-number-preserved
loop-number-preserved c = record {
  room = omega (arith, c.loop-number.invariant.room, c.push_reserved.ensures.len, c.push_reserved.ensures.capacity);
  so_far = one_value_more c.args.sources c.args.place c.args.object.now c.args.values.now.items c.loop-number.number
      c.loop-number.values.items c.push_reserved.new.self.items c.symbol_value.result c.symbols-symbols.result.now _
      c.loop-number-test.true c.symbols-symbols.ensures.value
      (λ l of o x h. c.symbol_value.ensures l o x of
      (λ number. c.addresses_of-addresses.ensures.places l.project l.layout number of.indexed_layout) h)
      c.push_reserved.ensures.items c.loop-number.invariant.so_far;
}

pub returns-clause-values : goal.returns-clause-values
returns-clause-values c =
    all_values c.args.sources c.args.place c.args.object.now c.args.values.now.items
    c.loop-number.number c.loop-number.values.items c.symbols-symbols.result.now
    c.symbols-symbols.ensures.value c.loop-number-test.false c.loop-number.invariant.so_far
