use Rattle.gather.proofs.Counting.{LaidUpTo}
use Rattle.gather.proofs.slots.lay_slots.Given as goal

abbrev pub invariant-loop-input : goal.invariant-loop-input
invariant-loop-input l = LaidUpTo l.inputs l.objects.items l.slots l.linked l.input-index
