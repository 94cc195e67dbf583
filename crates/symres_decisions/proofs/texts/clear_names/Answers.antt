use Rattle.symres_decisions.proofs.Common.{IsCleared, List, NamedSymbol, ap, arith, length, length-map, null_symbol}
use Rattle.symres_decisions.proofs.Common.{subst, take, take_all, ◌<◌}
use Rattle.symres_decisions.proofs.Clearing.{next_symbols, none_cleared}
use Rattle.symres_decisions.proofs.texts.clear_names.Goals as goal

pub loop-number-init : goal.loop-number-init
loop-number-init c = none_cleared c.args.names.now.names c.args.cases.now

pub clear_name-requires-clause-room : goal.clear_name-requires-clause-room
clear_name-requires-clause-room c = λ k h. omega (arith, c.requires.room k h, c.loop-number.invariant.long)

pub clear_name-requires-clause-number : goal.clear_name-requires-clause-number
clear_name-requires-clause-number c =
    omega (
      arith,
      ap length c.symbols-number-end.ensures.value,
      length-map c.args.object.now.symbols (λ (s : NamedSymbol). s.symbol),
      c.loop-number-test.true,
    )

pub loop-number-preserved : goal.loop-number-preserved
loop-number-preserved c =
    let xs : List NamedSymbol = c.args.object.now.symbols in
    let within : c.loop-number.number < length xs =
    omega (
      arith,
      ap length c.symbols-number-end.ensures.value,
      length-map xs (λ (s : NamedSymbol). s.symbol),
      c.loop-number-test.true,
    ) in
    subst (λ (ss : List NamedSymbol).
    IsCleared c.args.names.now.names ss c.args.cases.now c.clear_name.new.cases)
    (next_symbols xs c.loop-number.number null_symbol within)
    (c.clear_name.ensures c.args.cases.now (take c.loop-number.number xs) null_symbol c.loop-number.invariant)

pub returns : goal.returns
returns c =
    let xs : List NamedSymbol = c.args.object.now.symbols in
    subst (λ (ss : List NamedSymbol). IsCleared c.args.names.now.names ss c.args.cases.now c.loop-number.cases)
    (take_all c.loop-number.number xs
    (omega (
      arith,
      ap length c.symbols-number-end.ensures.value,
      length-map xs (λ (s : NamedSymbol). s.symbol),
      c.loop-number-test.false,
    )))
    c.loop-number.invariant
