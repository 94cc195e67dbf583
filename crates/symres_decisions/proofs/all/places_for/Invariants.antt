use Rattle.symres_decisions.proofs.Common.{None, case_at, get_or, length, ℕ, ◌<◌, ◌≡◌}
use Rattle.symres_decisions.proofs.Listed.{Listed}
use Rattle.symres_decisions.proofs.all.places_for.Given as goal

-- the names before this number have places
abbrev pub invariant-loop-number : goal.invariant-loop-number
invariant-loop-number l = record {
  room : (i : ℕ) (e : Listed) → i < l.number → (get_or l.names.order i e).1 < length l.cases;
  empty : (k : ℕ) → case_at l.cases k ≡ None;
}
