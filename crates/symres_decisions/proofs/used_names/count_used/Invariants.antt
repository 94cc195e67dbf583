use Rattle.symres_decisions.proofs.Common.{AreUsedBelow}
use Rattle.symres_decisions.proofs.used_names.count_used.Given as goal

-- the names before this place have entries
abbrev pub invariant-loop-place : goal.invariant-loop-place
invariant-loop-place l = AreUsedBelow l.names l.place
