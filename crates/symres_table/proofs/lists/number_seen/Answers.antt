use Rattle.symres_table.proofs.Common.{NamedSymbol, Symbol, ap, arith, cond, get_or, is_local, length, length-map, not}
use Rattle.symres_table.proofs.Common.{take, take_more, ◌+◌, ◌<◌, ◌∙◌}
use Rattle.symres_table.proofs.VisibleSymbols.{seen_few, seen_next}
use Rattle.symres_table.proofs.Spelling.{spells_push, no_symbol}
use Rattle.symres_table.proofs.lists.number_seen.Goals as goal

pub place_past-at-requires : goal.place_past-at-requires
place_past-at-requires c =
    let i = c.loop-index.index in
    let xs = c.args.object.now.symbols in
    let inv = c.loop-index.invariant in
    let lt : i < length xs =
    omega (
      arith,
      c.loop-index-test.true,
      ap length c.symbols-index-end.ensures.value,
      length-map xs (λ (s : NamedSymbol). s.symbol),
    ) in
    omega (arith, inv.at, seen_few xs i lt, c.loop-index-test.true, c.symbols-index-end.ensures.few)

pub loop-index-preserved : goal.loop-index-preserved
loop-index-preserved c =
    let i = c.loop-index.index in
    let xs = c.args.object.now.symbols in
    let inv = c.loop-index.invariant in
    let lt : i < length xs =
    omega (
      arith,
      c.loop-index-test.true,
      ap length c.symbols-index-end.ensures.value,
      length-map xs (λ (s : NamedSymbol). s.symbol),
    ) in
    let e = c.numbered_seen-symbol.ensures in
    record {
      at = seen_next xs i c.loop-index.at c.place_past-at.result no_symbol lt inv.at
          (c.place_past-at.ensures
          ∙ ap (λ (y : Symbol). c.loop-index.at + cond (not (is_local y.binding)) 1 0) (e.symbol no_symbol));
      spelled = λ names p.
          spells_push names c.loop-index.list.items c.push_reserved.new.self.items (take i xs) (take (i + 1) xs)
          c.numbered_seen-symbol.result (get_or xs i no_symbol) c.push_reserved.ensures.items
          (take_more xs i no_symbol lt) (e.spelled names no_symbol p) (e.named names p)
          (omega (arith, e.number, inv.len, c.loop-index.list.ok.0)) (inv.spelled names p);
      len = omega (arith, c.push_reserved.ensures.len, inv.len);
      room = c.push_reserved.ensures.capacity ∙ inv.room;
    }
