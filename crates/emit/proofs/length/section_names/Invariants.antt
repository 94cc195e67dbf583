-- The bytes so far, and those of the rest, are all.
use Rattle.emit.proofs.Common.{drop, names_size, ◌+◌, ◌≡◌}
use Rattle.emit.proofs.Sizing.{tree_names}
use Rattle.emit.proofs.length.section_names.Given as goal

abbrev pub invariant-loop-at : goal.invariant-loop-at
invariant-loop-at l =
    l.bytes + names_size (tree_names (drop l.at-index l.sections)) ≡ names_size (tree_names l.sections)
