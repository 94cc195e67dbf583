use Rattle.emit_relocate.proofs.Common.{all_directives, length, map, symbol_of, take, ◌≡◌}
use Rattle.place.specs.terms.LayoutSymbols.{AreFound, AreValuesOf}
use Rattle.emit_relocate.proofs.script_values.ScriptValues.of.Given as goal

-- the symbols before this one are noted
abbrev pub invariant-loop-symbol : goal.invariant-loop-symbol
invariant-loop-symbol l = record {
  long : length l.values.items ≡ length (all_directives l.script);
  noted : AreFound l.script l.symbol-items
      → AreValuesOf l.script l.values.items (map (symbol_of l.script) (take l.symbol-index l.symbol-items));
}
