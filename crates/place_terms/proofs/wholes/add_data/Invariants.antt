use Rattle.place_terms.proofs.Common.{data_in, data_of, drop, map, ◌++◌, ◌≡◌}
use Rattle.place_terms.proofs.wholes.add_data.Given as goal

abbrev pub invariant-loop-at : goal.invariant-loop-at
invariant-loop-at l =
    map data_of l.fn.list.items ++ data_in l.section.0 l.commands
    ≡ map data_of l.list.items ++ data_in l.section.0 (drop l.at-index l.commands)
