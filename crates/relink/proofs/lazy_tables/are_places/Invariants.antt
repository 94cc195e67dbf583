use Rattle.relink.proofs.Common.{slice_index_or, ℕ, ◌<◌, ◌≡◌}
use Rattle.relink.proofs.lazy_tables.are_places.Given as goal

abbrev pub invariant-loop-place : goal.invariant-loop-place
invariant-loop-place l = (k : ℕ) → k < l.place → slice_index_or l.keys k 0 ≡ k
