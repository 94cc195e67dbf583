use Rattle.symres_table.proofs.Common.{AreOf, NamedSymbol, ap, arith, get_or, length, length-map, subst, sym, take}
use Rattle.symres_table.proofs.Common.{take_more, ◌+◌, ◌<◌, ◌∙◌}
use Rattle.symres_table.proofs.Repeating.{of_push}
use Rattle.symres_table.proofs.Spelling.{spells_push, no_symbol}
use Rattle.symres_table.proofs.lists.number_all.Goals as goal

pub numbered-requires-clause-told : goal.numbered-requires-clause-told
numbered-requires-clause-told c =
    c.number_guessed-told.ensures c.args.known.now.slots
    (subst (AreOf c.args.known.now.slots c.args.object.now.symbols) (sym c.deref.ensures.value)
    c.loop-index.invariant.of)

pub loop-index-preserved : goal.loop-index-preserved
loop-index-preserved c =
    let i = c.loop-index.index in
    let xs = c.args.object.now.symbols in
    let inv = c.loop-index.invariant in
    let lt : c.loop-index.index < length c.args.object.now.symbols =
    omega (
      arith,
      c.loop-index-test.true,
      ap length c.symbols-index-end.ensures.value,
      length-map c.args.object.now.symbols (λ (s : NamedSymbol). s.symbol),
    ) in
    record {
      spelled = spells_push c.args.known.now.slots c.loop-index.list.items c.push_reserved.new.self.items (take i xs)
          (take (i + 1) xs) c.numbered.result (get_or xs i no_symbol)
          c.push_reserved.ensures.items (take_more xs i no_symbol lt) (c.numbered.ensures.spelled no_symbol)
          c.numbered.ensures.named (omega (arith, c.numbered.ensures.number, inv.len, c.loop-index.list.ok.0))
          inv.spelled;
      of = subst (AreOf c.args.known.now.slots xs) (sym c.push_reserved.ensures.items)
          (of_push c.args.known.now.slots xs c.loop-index.list.items c.numbered.result i lt c.numbered.ensures.number
          c.numbered.ensures.spelled c.numbered.ensures.named inv.of);
      len = omega (arith, c.push_reserved.ensures.len, inv.len);
      room = c.push_reserved.ensures.capacity ∙ inv.room;
    }
