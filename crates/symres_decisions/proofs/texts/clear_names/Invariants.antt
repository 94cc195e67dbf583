use Rattle.symres_decisions.proofs.Common.{IsCleared, take}
use Rattle.symres_decisions.proofs.texts.clear_names.Given as goal

-- the names of the symbols before this one are cleared
abbrev pub invariant-loop-number : goal.invariant-loop-number
invariant-loop-number l = IsCleared l.names.names (take l.number l.object.symbols) l.fn.cases l.cases
