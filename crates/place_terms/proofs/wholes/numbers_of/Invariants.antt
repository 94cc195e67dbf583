use Rattle.place_terms.proofs.Common.{drop, keyed, map, placed_in, ◌++◌, ◌≡◌}
use Rattle.place_terms.proofs.wholes.numbers_of.Given as goal

abbrev pub invariant-loop-section : goal.invariant-loop-section
invariant-loop-section l = l.parts.sections.now ++ placed_in (map keyed l.parts.placed.now) ≡ l.list.items
    ++ placed_in (map keyed (drop l.section-index l.parts.placed.now))
