use Rattle.symres_table.proofs.Common.{arith, length, ◌<◌}
use Rattle.symres_table.proofs.PlacesByNumber.{file_slot, files_more}
use Rattle.symres_table.proofs.name_table.file_all.Goals as goal

pub file-requires : goal.file-requires
file-requires c =
    let es = c.args.numbers.now.entries in
    let lt : c.loop-place.place < length es = omega (arith, c.loop-place-test.true, c.len-place-end.ensures.len) in
    file_slot es c.args.places.now.slots c.loop-place.places.slots c.loop-place.place c.number_at.result
    c.requires.apart c.requires.slots c.loop-place.invariant lt c.number_at.ensures

pub loop-place-preserved : goal.loop-place-preserved
loop-place-preserved c =
    let es = c.args.numbers.now.entries in
    let lt : c.loop-place.place < length es = omega (arith, c.loop-place-test.true, c.len-place-end.ensures.len) in
    files_more es c.args.places.now.slots c.loop-place.places.slots c.file.new.places.slots c.loop-place.place
    c.number_at.result c.requires.apart c.loop-place.invariant lt c.number_at.ensures c.file.ensures.long
    c.file.ensures.updates.changed c.file.ensures.updates.others
