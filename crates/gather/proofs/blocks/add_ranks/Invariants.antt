use Rattle.gather.proofs.Common.{block_rank, map, take, ◌++◌, ◌≡◌}
use Rattle.gather.proofs.blocks.add_ranks.Given as goal

abbrev pub invariant-loop-block : goal.invariant-loop-block
invariant-loop-block l =
    l.ranks.items ≡ l.fn.ranks.items ++ map (block_rank l.place) (take l.block-index l.blocks)
