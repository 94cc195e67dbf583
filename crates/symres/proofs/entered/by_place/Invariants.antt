use Rattle.symres.proofs.Common.{take, ◌≡◌}
use Rattle.symres_decisions.specs.Keyed as keyed
use Rattle.symres.specs.Entered.{tables_of}
use Rattle.symres.proofs.entered.by_place.Given as goal

-- the objects before this place are listed
abbrev pub invariant-loop-place : goal.invariant-loop-place
invariant-loop-place l = keyed.tables_of l.list.items ≡ take l.place (tables_of l.inputs)
