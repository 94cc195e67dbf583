-- The lists so far.
use Rattle.gather.proofs.Common.{length}
use Rattle.gather.proofs.GatheredLists.{Taken}
use Rattle.gather.proofs.rows.buckets.Given as goal

abbrev pub invariant-loop-place : goal.invariant-loop-place
invariant-loop-place l = Taken l.sections l.marks l.place (length l.statements) l.buckets.items
