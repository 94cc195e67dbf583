-- The blocks so far are added.
use Rattle.gather.proofs.Common.{AddsFacts, block_facts, map, take}
use Rattle.gather.specs.Matches.{number_of}
use Rattle.gather.proofs.gathered_section.add_blocks.Given as goal

abbrev pub invariant-loop-own : goal.invariant-loop-own
invariant-loop-own l = AddsFacts l.initial.sections.items l.sections.items
    (map (block_facts l.place.0 (number_of l.statement)) (take l.own-index l.blocks))
