use Rattle.symres_decisions.proofs.Common.{HaveEntries, List, NamedSymbol, ap, arith, length, length-map, null_symbol}
use Rattle.symres_decisions.proofs.Common.{subst, take, take_all, ◌<◌}
use Rattle.symres_decisions.proofs.Clearing.{next_symbols}
use Rattle.symres_decisions.proofs.Used.{none_lost}
use Rattle.symres_decisions.proofs.texts.have_entries.Goals as goal

pub loop-number-init : goal.loop-number-init
loop-number-init c = none_lost c.args.names.now.objects

pub has_entry-requires-clause-number : goal.has_entry-requires-clause-number
has_entry-requires-clause-number c =
    omega (
      arith,
      ap length c.symbols-number-end.ensures.value,
      length-map c.args.object.now.symbols (λ (s : NamedSymbol). s.symbol),
      c.loop-number-test.true,
    )

pub loop-number-preserved : goal.loop-number-preserved
loop-number-preserved c =
    let xs : List NamedSymbol = c.args.object.now.symbols in
    let within : c.loop-number.number < length xs =
    omega (
      arith,
      ap length c.symbols-number-end.ensures.value,
      length-map xs (λ (s : NamedSymbol). s.symbol),
      c.loop-number-test.true,
    ) in
    subst (λ (ss : List NamedSymbol). HaveEntries c.args.names.now.objects ss)
    (next_symbols xs c.loop-number.number null_symbol within)
    (c.has_entry.ensures c.if-not-has_entry.false (take c.loop-number.number xs) null_symbol c.loop-number.invariant)

pub returns : goal.returns
returns c = λ sure.
    let xs : List NamedSymbol = c.args.object.now.symbols in
    subst (λ (ss : List NamedSymbol). HaveEntries c.args.names.now.objects ss)
    (take_all c.loop-number.number xs
    (omega (
      arith,
      ap length c.symbols-number-end.ensures.value,
      length-map xs (λ (s : NamedSymbol). s.symbol),
      c.loop-number-test.false,
    )))
    c.loop-number.invariant
