-- What is listed, with what is still to be listed, is all.
use Rattle.ldscript_statements.proofs.Common.{drop, inputs_from, shown_inputs, shown_items, ◌++◌, ◌≡◌, ◌≤◌}
use Rattle.ldscript_statements.proofs.numbering.inputs_of_items.Given as goal

abbrev pub invariant-loop-item : goal.invariant-loop-item
invariant-loop-item l = (l.number ≤ l.item-index)
    × (shown_inputs l.list.items ++ inputs_from l.number
    (shown_items (drop l.item-index l.items)) ≡ shown_inputs l.initial.list.items ++ inputs_from 0
    (shown_items l.items))
