-- What is listed, with what is still to be listed, is all.
use Rattle.ldscript_statements.proofs.Common.{drop, shown_items, ◌++◌, ◌≡◌}
use Rattle.ldscript_statements.proofs.numbering.add_items.Given as goal

abbrev pub invariant-loop-item : goal.invariant-loop-item
invariant-loop-item l = shown_items l.list.items ++ (drop l.item-index l.these) ≡ shown_items
    l.initial.list.items ++ l.these
