use Rattle.place_terms.proofs.Common.{drop, keyed, map, starts_in, ◌++◌, ◌≡◌}
use Rattle.place_terms.proofs.wholes.starts_of.Given as goal

abbrev pub invariant-loop-section : goal.invariant-loop-section
invariant-loop-section l = l.parts.starts.now ++ starts_in (map keyed l.parts.placed.now) ≡ l.list.items
    ++ starts_in (map keyed (drop l.section-index l.parts.placed.now))
