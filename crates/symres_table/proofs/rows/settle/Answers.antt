use Rattle.symres_table.proofs.Common.{drop, length-take-le, sym, take, take-append-drop, ◌∙◌}
use Rattle.symres_table.proofs.Settling.{settle_is}
use Rattle.symres_table.proofs.rows.settle.Goals as goal

pub returns : goal.returns
returns c = λ fs bs os a e.
    let row = c.args.row.now in
    let tail = c.start_of_own-tail.result in
    c.move_tail_to.ensures (take tail row) (drop tail row) (sym (take-append-drop tail row))
    (length-take-le tail row c.start_of_own-tail.ensures.within)
    ∙ settle_is c.args.places.now c.args.at c.args.key.0 row fs bs os tail c.place_for-number.result a e
    c.start_of_own-tail.ensures c.place_for-number.ensures
