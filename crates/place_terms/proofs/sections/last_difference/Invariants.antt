use Rattle.place_terms.proofs.Common.{Some, keyed, keyed_taken, map, take, ◌++◌, ◌≡◌}
use Rattle.place_terms.specs.SectionTable.{difference_by}
use Rattle.place_terms.proofs.sections.last_difference.Given as goal

abbrev pub invariant-loop-section : goal.invariant-loop-section
invariant-loop-section l =
    l.difference ≡ difference_by (map keyed_taken (take l.section-index l.taken)) (Some l.region)

abbrev pub invariant-loop-section-2 : goal.invariant-loop-section-2
invariant-loop-section-2 l =
    l.difference ≡ difference_by (map keyed_taken l.taken ++ map keyed (take l.section-index l.list)) (Some l.region)
