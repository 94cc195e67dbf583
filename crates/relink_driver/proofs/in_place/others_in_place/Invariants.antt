use Rattle.relink_driver.proofs.Common.{None, origin_beside, slice_index_or, ℕ, ◌<◌, ◌≡◌}
use Rattle.relink_driver.proofs.in_place.others_in_place.Given as goal

abbrev pub invariant-loop-i : goal.invariant-loop-i
invariant-loop-i l =
    (i : ℕ) → i < l.i → slice_index_or l.previous.origins.now i None ≡ origin_beside l.place.0 i
