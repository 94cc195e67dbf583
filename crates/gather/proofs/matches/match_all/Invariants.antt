-- The objects so far.
use Rattle.gather.proofs.Preparing.{MatchedBefore}
use Rattle.gather.proofs.matches.match_all.Given as goal

abbrev pub invariant-loop-input : goal.invariant-loop-input
invariant-loop-input l = MatchedBefore l.project l.input-index l.all.items
