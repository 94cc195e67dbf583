-- Those of the numbers so far.
use Rattle.place_sections.proofs.Common.{Extent, None, Numbered, first_overlap, get_or, length, ℕ, ◌<◌, ◌≡◌}
use Rattle.place_sections.proofs.firsts.by_number.Given as goal

abbrev pub invariant-loop-j : goal.invariant-loop-j
invariant-loop-j l = record {
  count : length l.firsts.items ≡ length l.extents;
  each : (i : ℕ) (r : Numbered) (d : Extent) → i < l.j
      → get_or l.firsts.items (get_or l.ranking i r).number None
      ≡ first_overlap l.extents (get_or l.extents (get_or l.ranking i r).number d);
}
