use Rattle.place_terms.proofs.Common.{counts_in, drop, keyed, map, ◌++◌, ◌≡◌}
use Rattle.place_terms.proofs.wholes.counts_of.Given as goal

abbrev pub invariant-loop-section : goal.invariant-loop-section
invariant-loop-section l = l.parts.counts.now ++ counts_in (map keyed l.parts.placed.now) ≡ l.list.items
    ++ counts_in (map keyed (drop l.section-index l.parts.placed.now))
