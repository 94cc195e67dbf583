use Rattle.relink_driver.proofs.Common.{shown_inputs}
use Rattle.relink_driver.proofs.Symbols.{TableSoFar}
use Rattle.relink_driver.proofs.symbol_values.symbol_values.Given as goal

abbrev pub invariant-loop-place : goal.invariant-loop-place
invariant-loop-place l =
    TableSoFar l.project l.sources (shown_inputs l.inputs) l.place l.starts.items l.values.items
