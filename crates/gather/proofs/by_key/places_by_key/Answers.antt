use Rattle.gather.proofs.Common.{arith, place_in}
use Rattle.gather.proofs.KeyPlaces.{all_below, next_below, none_below}
use Rattle.gather.proofs.by_key.places_by_key.Goals as goal

pub loop-key-init : goal.loop-key-init
loop-key-init c =
    none_below c.args.project.now c.args.symbol_table.now c.in_ok-column.column.items c.in_ok-column.ensures.items

pub loop-key-preserved : goal.loop-key-preserved
loop-key-preserved c =
    next_below c.args.project.now c.args.symbol_table.now c.loop-key.key c.loop-key.column.items
    c.push.new.list.items (place_in c.args.places.now) c.section_of_key-section.result c.find.result c.requires.places
    c.section_of_key-section.ensures c.find.ensures c.in_ok-push.ensures.items c.loop-key.invariant

pub returns : goal.returns
returns c =
    all_below c.args.project.now c.args.symbol_table.now c.loop-key.key c.loop-key.column.items
    (omega (arith, c.loop-key-test.false, c.limit-limit.ensures)) c.loop-key.invariant
