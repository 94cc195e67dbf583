use Rattle.relink_driver.proofs.Common.{None, arith, get_or_past, has_stayed_number, key_at, previous_state}
use Rattle.relink_driver.proofs.Columns.{column_done, none_where_new}
use Rattle.relink_driver.proofs.WhollyStayed.{rows_done}
use Rattle.relink_driver.proofs.stayed_column.column_beside.Goals as goal

pub returns-clause-flags : goal.returns-clause-flags
returns-clause-flags c = λ object number.
    let x = previous_state c.args.previous.now in
    let t = c.args.indexed_layout.now in
    column_done (has_stayed_number x t) _ _ c.loop-place.place object.0 number.0
    (λ past. none_where_new x t (key_at object.0 number.0)
    (get_or_past x.origins object.0 None (omega (arith, past, c.loop-place-test.false))))
    c.loop-place.invariant.flags

pub returns-clause-all_stayed : goal.returns-clause-all_stayed
returns-clause-all_stayed c = λ object so number.
    rows_done (previous_state c.args.previous.now) c.args.indexed_layout.now _ c.loop-place.place object.0
    c.loop-place.invariant.all_stayed so number.0
