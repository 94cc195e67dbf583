-- Those so far.
use Rattle.gather.proofs.Common.{map, take, ◌≡◌}
use Rattle.gather.proofs.matches.lend_all.Given as goal

abbrev pub invariant-loop-matches : goal.invariant-loop-matches
invariant-loop-matches l = map (λ x. x.now) l.lent.items ≡ take l.matches-index l.all
