-- What is listed, with what is still to be listed, is all.
use Rattle.ldscript_statements.proofs.Common.{drop, items_directives, shown_directives, ◌++◌, ◌≡◌}
use Rattle.ldscript_statements.proofs.numbering.add_items_directives.Given as goal

abbrev pub invariant-loop-item : goal.invariant-loop-item
invariant-loop-item l = shown_directives l.list.items ++ items_directives
    (drop l.item-index l.items) ≡ shown_directives l.initial.list.items ++ items_directives l.items
