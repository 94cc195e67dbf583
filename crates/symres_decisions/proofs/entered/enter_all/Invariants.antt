use Rattle.symres_decisions.proofs.Common.{tables_of, take, ◌≡◌}
use Rattle.symres_decisions.proofs.entered.enter_all.Given as goal

-- the objects before this place are entered
abbrev pub invariant-loop-place : goal.invariant-loop-place
invariant-loop-place l = l.names.objects ≡ take l.place (tables_of l.objects)
