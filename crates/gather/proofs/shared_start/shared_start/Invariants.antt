-- The names so far begin so.
use Rattle.gather.proofs.Common.{AllBegin, take}
use Rattle.gather.proofs.shared_start.shared_start.Given as goal

abbrev pub invariant-loop-name : goal.invariant-loop-name
invariant-loop-name l = AllBegin l.start (take l.name-index l.names)
