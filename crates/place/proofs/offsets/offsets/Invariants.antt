-- What is found so far, and what the rest gives, are all.
use Rattle.place.proofs.Common.{drop, offsets_in, ◌++◌, ◌≡◌}
use Rattle.place.proofs.offsets.offsets.Given as goal

abbrev pub invariant-loop-section : goal.invariant-loop-section
invariant-loop-section l =
    l.offsets.items ++ offsets_in (drop l.section-index l.sections) (drop l.number l.segments)
    ≡ offsets_in l.sections l.segments
