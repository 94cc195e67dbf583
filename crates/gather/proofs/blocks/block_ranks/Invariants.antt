use Rattle.gather.proofs.Ranked.{RankedUpTo}
use Rattle.gather.proofs.blocks.block_ranks.Given as goal

abbrev pub invariant-loop-place : goal.invariant-loop-place
invariant-loop-place l = RankedUpTo l.all l.ranks.items l.place
