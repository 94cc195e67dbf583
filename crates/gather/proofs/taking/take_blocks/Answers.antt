use Rattle.gather.proofs.Common.{ap, block_facts, drop_all, map, rules}
use Rattle.ldscript.specs.statements.Numbered.{shown_inputs}
use Rattle.gather.specs.Matches.{number_of}
use Rattle.gather.proofs.AllTaken.{all_taken, block_taken, nothing_taken}
use Rattle.gather.proofs.taking.take_blocks.Goals as goal

pub loop-number-init : goal.loop-number-init
loop-number-init c = nothing_taken (shown_inputs c.args.statements.now) c.args.orphans c.args.taken.now _

pub loop-number-preserved : goal.loop-number-preserved
loop-number-preserved c =
    block_taken (shown_inputs c.args.statements.now) c.args.orphans
    (block_facts c.args.place.0 (number_of c.args.matched)) c.args.blocks.now
    c.args.taken.now c.loop-number.taken c.take_section.new.taken c.block-section.result c.loop-number.number
    _ _ (search rules) c.block-section.ensures c.in_ok-take_section.ensures c.loop-number.invariant

pub returns : goal.returns
returns c =
    all_taken (shown_inputs c.args.statements.now) c.args.orphans c.args.taken.now c.loop-number.taken _ _
    (ap (map (block_facts c.args.place.0 (number_of c.args.matched)))
    (drop_all c.loop-number.number c.args.blocks.now (search rules)))
    c.loop-number.invariant
