use Rattle.ldscript_terms.proofs.Common.{is_in_any, length, ranges_of, ◌≡◌}
use Rattle.ldscript_terms.proofs.set.set_has.Given as goal

abbrev pub invariant-loop-range : goal.invariant-loop-range
invariant-loop-range l = is_in_any l.byte (ranges_of l.body) ≡ is_in_any l.byte (ranges_of l.rest)

abbrev pub decreases-loop-range : goal.decreases-loop-range
decreases-loop-range l = length l.rest
