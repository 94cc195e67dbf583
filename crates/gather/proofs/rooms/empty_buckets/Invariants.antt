-- The lists so far.
use Rattle.gather.proofs.Common.{AreEmpty}
use Rattle.gather.proofs.rooms.empty_buckets.Given as goal

abbrev pub invariant-loop-number : goal.invariant-loop-number
invariant-loop-number l = AreEmpty l.number l.buckets.items
