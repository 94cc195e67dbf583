use Rattle.symres_decisions.proofs.MakingRoom.{Cleaned}
use Rattle.symres_decisions.proofs.room.clear_unnamed.Given as goal

abbrev pub invariant-loop-key : goal.invariant-loop-key
invariant-loop-key l = Cleaned l.names.names l.fn.cases l.cases l.key
