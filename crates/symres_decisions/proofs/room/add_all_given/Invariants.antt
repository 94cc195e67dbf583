use Rattle.symres_decisions.proofs.Common.{AreCases, HasCase, get_or, ℕ, ◌<◌, ◌≤◌}
use Rattle.symres_decisions.proofs.Listed.{Listed}
use Rattle.symres_decisions.proofs.room.add_all_given.Given as goal

-- the names before this place have cases
abbrev pub invariant-loop-place : goal.invariant-loop-place
invariant-loop-place l = record {
  sound : AreCases l.script l.names l.fn.cases → AreCases l.script l.names l.cases;
  kept : (k : ℕ) → HasCase l.fn.cases k → HasCase l.cases k;
  done : (i : ℕ) (e : Listed) → l.from ≤ i → i < l.place → HasCase l.cases (get_or l.names.order i e).1;
}
