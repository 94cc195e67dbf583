-- What is listed, with what is still to be listed, is all.
use Rattle.ldscript_statements.proofs.Common.{drop, sections_in, shown_items, shown_sections, ◌++◌, ◌≡◌}
use Rattle.ldscript_statements.proofs.numbering.sections_of_items.Given as goal

abbrev pub invariant-loop-item : goal.invariant-loop-item
invariant-loop-item l = shown_sections l.list.items ++ sections_in
    (shown_items (drop l.item-index l.items)) ≡ shown_sections l.initial.list.items ++ sections_in (shown_items l.items)
