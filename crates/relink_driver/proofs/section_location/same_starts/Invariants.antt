-- The flags of the output sections so far.
use Rattle.relink_driver.proofs.Common.{[], has_same_start}
use Rattle.relink_driver.proofs.Columns.{RowSoFar}
use Rattle.relink_driver.proofs.section_location.same_starts.Given as goal

abbrev pub invariant-loop-number : goal.invariant-loop-number
invariant-loop-number l = RowSoFar (λ k. has_same_start l.previous l.link_layout k) [] l.with_same_start.items l.number
