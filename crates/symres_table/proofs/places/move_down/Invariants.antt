use Rattle.symres_table.proofs.Common.{PlacedKey, down, get_or, length, ℕ, ◌<◌, ◌≡◌, ◌≤◌}
use Rattle.symres_table.proofs.places.move_down.Given as goal

abbrev pub invariant-loop-place : goal.invariant-loop-place
invariant-loop-place l = record {
  done : (k : ℕ) (d : PlacedKey) → k < l.place-index → ((get_or l.places k d).key.0 ≡ (get_or l.fn.places k d).key.0)
      × ((get_or l.places k d).at ≡ down l.at (get_or l.fn.places k d).at);
  left : (k : ℕ) (d : PlacedKey) → l.place-index ≤ k → k < length l.places
      → get_or l.places k d ≡ get_or l.fn.places k d;
}
