use Rattle.symres_decisions.proofs.Common.{DecidedFor, List, NamedSymbol, ap, arith, length, length-map, null_symbol}
use Rattle.symres_decisions.proofs.Common.{refl, subst, take, take_all, ◌<◌, ◌∙◌}
use Rattle.symres_decisions.proofs.Clearing.{next_symbols}
use Rattle.symres_decisions.proofs.NamesDecided.{none_named}
use Rattle.symres_decisions.proofs.texts.decide_names.Goals as goal

pub loop-number-init : goal.loop-number-init
loop-number-init c = record {
  long = refl;
  decided = λ seen sound done free.
      none_named c.args.script.now c.args.names.now c.args.cases.now c.args.meter.now seen
      (omega (arith, c.names-names.ensures, c.names-names.type_inv)) sound done;
}

pub decide_name-requires-clause-room : goal.decide_name-requires-clause-room
decide_name-requires-clause-room c = λ k h. omega (arith, c.requires.room k h, c.loop-number.invariant.long)

pub decide_name-requires-clause-number : goal.decide_name-requires-clause-number
decide_name-requires-clause-number c =
    omega (
      arith,
      ap length c.symbols-number-end.ensures.value,
      length-map c.args.object.now.symbols (λ (s : NamedSymbol). s.symbol),
      c.loop-number-test.true,
    )

pub loop-number-preserved : goal.loop-number-preserved
loop-number-preserved c =
    let xs : List NamedSymbol = c.args.object.now.symbols in
    let within : c.loop-number.number < length xs =
    omega (
      arith,
      ap length c.symbols-number-end.ensures.value,
      length-map xs (λ (s : NamedSymbol). s.symbol),
      c.loop-number-test.true,
    ) in
    record {
      long = c.decide_name.ensures.long ∙ c.loop-number.invariant.long;
      decided = λ seen sound done free.
          subst (λ (ss : List NamedSymbol).
          DecidedFor c.args.script.now c.args.names.now c.args.cases.now c.decide_name.new.cases c.args.meter.now
          c.decide_name.new.meter seen ss)
          (next_symbols xs c.loop-number.number null_symbol within)
          (c.decide_name.ensures.decided c.args.cases.now c.args.meter.now seen (take c.loop-number.number xs)
          null_symbol free (c.loop-number.invariant.decided seen sound done free));
    }

pub returns-clause-decided : goal.returns-clause-decided
returns-clause-decided c = λ seen sound done free.
    let xs : List NamedSymbol = c.args.object.now.symbols in
    subst (λ (ss : List NamedSymbol).
    DecidedFor c.args.script.now c.args.names.now c.args.cases.now c.loop-number.cases c.args.meter.now
    c.loop-number.meter seen ss)
    (take_all c.loop-number.number xs
    (omega (
      arith,
      ap length c.symbols-number-end.ensures.value,
      length-map xs (λ (s : NamedSymbol). s.symbol),
      c.loop-number-test.false,
    )))
    (c.loop-number.invariant.decided seen sound done free)
