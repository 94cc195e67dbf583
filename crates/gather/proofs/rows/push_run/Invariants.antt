-- The sections so far are added.
use Rattle.gather.proofs.Common.{linked_piece, map, take, ◌++◌, ◌≡◌}
use Rattle.gather.proofs.rows.push_run.Given as goal

abbrev pub invariant-loop-section : goal.invariant-loop-section
invariant-loop-section l =
    l.list.items ≡ l.initial.list.items ++ map (linked_piece l.place l.statement) (take l.section-index l.run)
