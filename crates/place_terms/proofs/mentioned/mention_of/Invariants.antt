-- None of the names before is this one.
use Rattle.place_terms.proofs.Common.{Some, shown_names, slice_get, ℕ, ◌<◌, ◌≡◌}
use Rattle.place_terms.proofs.mentioned.mention_of.Given as goal

abbrev pub invariant-loop-k : goal.invariant-loop-k
invariant-loop-k l = (j : ℕ) → j < l.k → slice_get (shown_names l.names) j ≡ Some l.name → ⊥
