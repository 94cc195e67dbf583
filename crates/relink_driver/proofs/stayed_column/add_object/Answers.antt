use Rattle.relink_driver.proofs.Common.{key_at, previous_state, sym}
use Rattle.relink_driver.proofs.Columns.{no_row, none_where_new, row_as, same_number}
use Rattle.relink_driver.proofs.WhollyStayed.{still_as}
use Rattle.relink_driver.proofs.stayed_column.add_object.Goals as goal

pub returns-in_default-clause-flags : goal.returns-in_default-clause-flags
returns-in_default-clause-flags c =
    let x = previous_state c.args.previous.now in
    let n = c.args.object.0 in
    no_row _ _ (λ k. none_where_new x c.args.indexed_layout.now (key_at n k) (sym c.in_default.ensures))

pub returns-clause-flags : goal.returns-clause-flags
returns-clause-flags c =
    let x = previous_state c.args.previous.now in
    row_as _ _ _ _
    (λ k. same_number x c.args.indexed_layout.now c.args.object.0 k c.in-Some.origin _ _ c.in-Some.ensures
    (c.addresses_of-before.ensures.are (record { 0 = k })) (c.addresses_of-now.ensures.are (record { 0 = k })))
    c.in_ok-all_stayed.ensures.flags

pub returns-clause-all_stayed : goal.returns-clause-all_stayed
returns-clause-all_stayed c = λ so k.
    let x = previous_state c.args.previous.now in
    let address_now = c.addresses_of-now.ensures.are (record { 0 = k }) in
    still_as _ _ _ _
    (same_number x c.args.indexed_layout.now c.args.object.0 k c.in-Some.origin _ _ c.in-Some.ensures
    (c.addresses_of-before.ensures.are (record { 0 = k })) address_now)
    address_now (c.in_ok-all_stayed.ensures.all_stayed so k)
