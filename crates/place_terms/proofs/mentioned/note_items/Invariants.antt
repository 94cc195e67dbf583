-- What is listed, with what is still to be listed, is all.
use Rattle.place_terms.proofs.Common.{drop, in_items, shown_names, ◌++◌, ◌≡◌}
use Rattle.place_terms.proofs.mentioned.note_items.Given as goal

abbrev pub invariant-loop-item : goal.invariant-loop-item
invariant-loop-item l = shown_names l.names.items ++ in_items (drop l.item-index l.items)
    ≡ shown_names l.initial.names.items ++ in_items l.items
