use Rattle.symres_decisions.proofs.Common.{AreCases, AreDone, AreOpen, DecidedFor, List, declared_in, length, take, ℕ}
use Rattle.symres_decisions.proofs.Common.{◌≡◌}
use Rattle.symres_decisions.proofs.texts.decide_names.Given as goal

-- the names of the symbols before this one are decided
abbrev pub invariant-loop-number : goal.invariant-loop-number
invariant-loop-number l = record {
  long : length l.cases ≡ length l.fn.cases;
  decided : (seen : List (List ℕ)) → AreCases l.script l.names l.fn.cases → AreDone l.names.names l.fn.cases seen
      → AreOpen l.names.names l.fn.cases (declared_in l.object.symbols) seen
      → DecidedFor l.script l.names l.fn.cases l.cases l.fn.meter l.meter seen (take l.number l.object.symbols);
}
