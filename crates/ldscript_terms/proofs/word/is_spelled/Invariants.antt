use Rattle.ldscript_terms.proofs.Common.{IsSpelled, length, ◌↔◌}
use Rattle.ldscript_terms.proofs.word.is_spelled.Given as goal

abbrev pub invariant-loop-more : goal.invariant-loop-more
invariant-loop-more l = IsSpelled l.rest ↔ IsSpelled l.word

abbrev pub decreases-loop-more : goal.decreases-loop-more
decreases-loop-more l = length l.rest
