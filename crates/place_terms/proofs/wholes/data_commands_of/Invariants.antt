use Rattle.place_terms.proofs.Common.{all_data_in, both, data_of, drop, keyed, length, map, ◌++◌, ◌+◌, ◌≡◌}
use Rattle.place_terms.proofs.wholes.data_commands_of.Given as goal

abbrev pub invariant-loop-section : goal.invariant-loop-section
invariant-loop-section l = record {
  commands : all_data_in 0 (both l.parts.taken.now l.parts.placed.now) ≡ map data_of l.list.items
      ++ all_data_in l.number (both (drop l.section-index l.parts.taken.now) l.parts.placed.now);
  number : l.number ≡ l.section-index;
}

abbrev pub invariant-loop-section-2 : goal.invariant-loop-section-2
invariant-loop-section-2 l = record {
  commands : all_data_in 0 (both l.parts.taken.now l.parts.placed.now) ≡ map data_of l.list.items
      ++ all_data_in l.number (map keyed (drop l.section-index l.parts.placed.now));
  number : l.number ≡ length l.parts.taken.now + l.section-index;
}
