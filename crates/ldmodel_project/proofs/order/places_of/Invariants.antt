use Rattle.ldmodel_project.proofs.Noting.{HasFirst}
use Rattle.ldmodel_project.proofs.order.places_of.Given as goal

-- the keys so far are noted
abbrev pub invariant-loop-place : goal.invariant-loop-place
invariant-loop-place l = HasFirst l.keys l.place l.places.items
