use Rattle.relink_driver.proofs.Common.{None, ap, arith, is_some, slice_index_or, stayed_between, ◌∙◌}
use Rattle.relink_driver.proofs.Columns.{row_begun, row_more}
use Rattle.relink_driver.proofs.WhollyStayed.{still_begun, still_done, still_more}
use Rattle.relink_driver.proofs.stayed_column.add_flags.Goals as goal

pub loop-number-init : goal.loop-number-init
loop-number-init c = record {
  room = omega (arith, c.in_ok-reserve.ensures.ok);
  slice = row_begun _ _ _ c.in_ok-reserve.ensures.items;
  all_stayed = still_begun _ _ _;
}

pub push_reserved-requires : goal.push_reserved-requires
push_reserved-requires c = omega (arith, c.loop-number.invariant.room, c.loop-number-test.true)

pub loop-number-preserved : goal.loop-number-preserved
loop-number-preserved c =
    let l = c.args.previous.now in
    let m = c.args.link_layout.now in
    record {
      room = omega (arith, c.loop-number.invariant.room, c.push_reserved.ensures.len, c.push_reserved.ensures.capacity);
      slice = row_more _ _ _ _ c.loop-number.number c.is_stayed-stayed.result c.push_reserved.ensures.items
          (c.is_stayed-stayed.ensures
          ∙ ap (λ b. is_some (stayed_between l b m c.address_at-address_now.result)) c.address_at-address_before.ensures
          ∙ ap (λ a. is_some (stayed_between l (slice_index_or c.args.before.now c.loop-number.number None) m a))
          c.address_at-address_now.ensures)
          c.loop-number.invariant.slice;
      all_stayed = still_more _ c.args.now.now c.loop-number.all_stayed c.all_stayed_with-all_stayed.result
          c.is_stayed-stayed.result
          c.address_at-address_now.result c.loop-number.number c.all_stayed_with-all_stayed.ensures
          (c.is_stayed-stayed.ensures
          ∙ ap (λ b. is_some (stayed_between l b m c.address_at-address_now.result)) c.address_at-address_before.ensures
          ∙ ap (λ a. is_some (stayed_between l (slice_index_or c.args.before.now c.loop-number.number None) m a))
          c.address_at-address_now.ensures)
          c.address_at-address_now.ensures c.loop-number.invariant.all_stayed;
    }

pub returns-clause-all_stayed : goal.returns-clause-all_stayed
returns-clause-all_stayed c =
    still_done _ c.args.now.now c.loop-number.all_stayed c.loop-number.number
    (omega (arith, c.loop-number-test.false)) c.loop-number.invariant.all_stayed
