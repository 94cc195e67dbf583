use Rattle.emit_relocate.proofs.Common.{ap, arith, get_or, get_or_default, length, map, refl, subst, sym, symbol_of}
use Rattle.emit_relocate.proofs.Common.{take, ◌∙◌}
use Rattle.ldmodel.specs.declared.script_symbol.ScriptSymbol.{ScriptSymbol}
use Rattle.place.specs.terms.LayoutSymbols.{AreFound, AreValuesOf}
use Rattle.emit_relocate.proofs.Giving.{all_values, more_values}
use Rattle.emit_relocate.proofs.script_values.ScriptValues.of.Goals as goal

abbrev no_symbol : ScriptSymbol
no_symbol = record { command = record { 0 = 0 }; value = 0 }

pub loop-symbol-preserved : goal.loop-symbol-preserved
loop-symbol-preserved c =
    let script = c.args.script.now in
    let symbols = c.symbols-symbol-items.result.now in
    let i = c.loop-symbol.symbol-index in
    let symbol = get_or symbols i no_symbol in
    record {
      long = c.note_value.ensures.long ∙ c.loop-symbol.invariant.long;
      noted = λ found.
          more_values script symbols i symbol c.loop-symbol.values.items c.note_value.new.values.items
          c.loop-symbol-test.true (get_or_default symbols i symbol no_symbol c.loop-symbol-test.true)
          (λ xs.
          c.note_value.ensures.noted script xs (found i no_symbol c.loop-symbol-test.true) c.loop-symbol.invariant.long)
          (c.loop-symbol.invariant.noted found);
    }

pub returns : goal.returns
returns c =
    λ s are.
    let script = c.args.script.now in
    let i = c.loop-symbol.symbol-index in
    let same = c.symbols-symbol-items.ensures in
    all_values script s c.args.placement.now (record { script = c.args.script; values = c.loop-symbol.values }) i refl
    are (omega (arith, c.loop-symbol-test.false, ap length same))
    (subst (λ ys. AreValuesOf script c.loop-symbol.values.items (map (symbol_of script) (take i ys))) same
    (c.loop-symbol.invariant.noted (subst (AreFound script) (sym same) are.found)))
