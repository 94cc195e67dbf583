use Rattle.relink_driver.proofs.Common.{slice_index_or, ℕ, ◌<◌, ◌≡◌}
use Rattle.emit.specs.relocate.declared.value.SymbolValue.TheVariants.{NotDefined}
use Rattle.relink_driver.proofs.dirty.have_same_values.Given as goal

abbrev pub invariant-loop-number : goal.invariant-loop-number
invariant-loop-number l =
    (n : ℕ) → n < l.number → slice_index_or l.old n NotDefined ≡ slice_index_or l.new n NotDefined
