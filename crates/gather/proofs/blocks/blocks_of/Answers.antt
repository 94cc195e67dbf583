use Rattle.gather.proofs.Common.{ap, arith, block_at, length, map, sym, ◌<◌, ◌∙◌}
use Rattle.gather.specs.Blocks.{block_of}
use Rattle.gather.proofs.Commons.{none_after, none_before}
use Rattle.gather.proofs.Owning.{symbols_more}
use Rattle.gather.proofs.blocks.blocks_of.Goals as goal

pub loop-number-init : goal.loop-number-init
loop-number-init c = λ name.
    ap (map (block_of c.args.place name)) c.new-blocks.ensures.items
    ∙ sym (none_before c.args.project.now c.args.place c.args.object.now c.args.commons.now.start
    c.args.commons.now.end c.requires.object c.requires.commons name)

pub loop-number-preserved : goal.loop-number-preserved
loop-number-preserved c = λ name.
    let ss = c.args.object.now.symbols in
    let low : c.loop-number.number < length ss =
    omega (arith, c.loop-number-test.true, c.requires.commons.within) in
    symbols_more (block_at c.args.project.now c.args.place (record { name = name; object = c.args.object.now }))
    (block_of c.args.place name) ss c.loop-number.number c.loop-number.blocks.items c.add_block.new.blocks.items
    c.block_of_symbol-block.result low (c.block_of_symbol-block.ensures name) c.in_ok-add_block.ensures
    (c.loop-number.invariant name)

pub returns : goal.returns
returns c = λ name.
    c.loop-number.invariant name
    ∙ none_after c.args.project.now c.args.place c.args.object.now c.args.commons.now.start c.args.commons.now.end
    c.requires.object c.requires.commons name c.loop-number.number (omega (arith, c.loop-number-test.false))
