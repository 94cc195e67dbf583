-- The blocks of the symbols so far.
use Rattle.gather.proofs.Common.{List, block_at, enumerate_from, filter_map, map, take, ℕ, ◌≡◌}
use Rattle.gather.specs.Blocks.{block_of}
use Rattle.gather.proofs.blocks.blocks_of.Given as goal

abbrev pub invariant-loop-number : goal.invariant-loop-number
invariant-loop-number l = (name : List ℕ) → map (block_of l.place name) l.blocks.items
    ≡ filter_map (block_at l.project l.place (record { name = name; object = l.object }))
    (take l.number (enumerate_from 0 l.object.symbols))
