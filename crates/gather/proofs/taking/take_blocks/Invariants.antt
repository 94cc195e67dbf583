-- Some of the blocks are taken.
use Rattle.gather.proofs.Common.{block_facts, drop, map}
use Rattle.ldscript.specs.statements.Numbered.{shown_inputs}
use Rattle.gather.specs.Matches.{number_of}
use Rattle.gather.proofs.AllTaken.{TakesSome}
use Rattle.gather.proofs.taking.take_blocks.Given as goal

abbrev pub invariant-loop-number : goal.invariant-loop-number
invariant-loop-number l =
    TakesSome (shown_inputs l.statements) l.orphans l.initial.taken l.taken
    (map (block_facts l.place.0 (number_of l.matched)) (drop l.number l.blocks))
    (map (block_facts l.place.0 (number_of l.matched)) l.blocks)
