-- The blocks of the objects so far.
use Rattle.gather.proofs.Preparing.{BlocksBefore}
use Rattle.gather.proofs.blocks.common_blocks.Given as goal

abbrev pub invariant-loop-place : goal.invariant-loop-place
invariant-loop-place l = BlocksBefore l.project l.place l.all.items
