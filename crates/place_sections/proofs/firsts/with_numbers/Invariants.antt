-- Those so far.
use Rattle.place_sections.proofs.Common.{Extent, Numbered, get_or, length, ℕ, ◌<◌, ◌≡◌}
use Rattle.place_sections.proofs.firsts.with_numbers.Given as goal

abbrev pub invariant-loop-number : goal.invariant-loop-number
invariant-loop-number l = record {
  count : length l.numbered.items ≡ l.number;
  each : (k : ℕ) (d : Numbered) (e : Extent) → k < l.number
      → get_or l.numbered.items k d ≡ record { extent = get_or l.extents k e; number = k };
}
