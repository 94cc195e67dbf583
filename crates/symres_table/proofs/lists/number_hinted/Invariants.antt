use Rattle.symres_table.proofs.Common.{AreOf}
use Rattle.symres_table.proofs.lists.number_hinted.Given as goal

abbrev pub invariant-loop-number : goal.invariant-loop-number
invariant-loop-number l = AreOf l.known.slots l.object.symbols l.list.items
