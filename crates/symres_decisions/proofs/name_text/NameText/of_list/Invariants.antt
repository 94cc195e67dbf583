use Rattle.symres_decisions.proofs.Common.{compared_number, map, take, ◌≡◌}
use Rattle.symres_decisions.proofs.name_text.NameText.of_list.Given as goal

-- the names so far
abbrev pub invariant-loop-compared : goal.invariant-loop-compared
invariant-loop-compared l = l.text ≡ map compared_number (take l.compared-index l.list)
