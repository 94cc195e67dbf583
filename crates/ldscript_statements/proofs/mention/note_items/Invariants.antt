-- What is listed, with what is still to be listed, is all.
use Rattle.ldscript_statements.proofs.Common.{drop, in_items, shown, ◌++◌, ◌≡◌}
use Rattle.ldscript_statements.proofs.mention.note_items.Given as goal

abbrev pub invariant-loop-item : goal.invariant-loop-item
invariant-loop-item l = shown l.list.items ++ in_items
    (drop l.item-index l.items) ≡ shown l.initial.list.items ++ in_items l.items
