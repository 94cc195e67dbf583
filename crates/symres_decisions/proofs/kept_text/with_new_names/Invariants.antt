use Rattle.symres_decisions.proofs.Common.{AreInOrder, take}
use Rattle.symres_decisions.proofs.kept_text.with_new_names.Given as goal

-- the names before this place
abbrev pub invariant-loop-place : goal.invariant-loop-place
invariant-loop-place l = AreInOrder (take l.place l.names.order) l.text
