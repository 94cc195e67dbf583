-- The lists so far.
use Rattle.gather.proofs.Common.{AreEmpty}
use Rattle.gather.proofs.rows.empty_rows.Given as goal

abbrev pub invariant-loop-number : goal.invariant-loop-number
invariant-loop-number l = AreEmpty l._number l.lists.items
