use Rattle.emit.proofs.Common.{AreInOrder, ap, arith, drop, length, patch_end, subst, sym, ◌+◌, ◌≡◌}
use Rattle.emit.proofs.Planning.{order_first, order_low, order_more}
use Rattle.emit.proofs.plan.are_in_order.Goals as goal

pub loop-patch-preserved : goal.loop-patch-preserved
loop-patch-preserved c = λ n.
    let bytes = ap length c.bytes.ensures in
    let next : c.in-Some.next ≡ patch_end c.patch-item.result = omega (arith, c.in-Some.ensures, bytes) in
    let ps = c.args.fields.now in
    let i = c.loop-patch.patch-index in (
      λ k. (c.loop-patch.invariant n).0
          (order_more ps i c.loop-patch.end n c.in-Some.next c.patch-item.result c.loop-patch-test.true c.patch-item.is
          c.if-patch-end.false next k),
      λ h. subst (λ m. AreInOrder m n (drop (i + 1) ps)) (sym next)
          (order_first ps i c.loop-patch.end n c.patch-item.result c.loop-patch-test.true c.patch-item.is
          ((c.loop-patch.invariant n).1 h)).1,
    )

pub returns-in-None-clause-none : goal.returns-in-None-clause-none
returns-in-None-clause-none c = λ _ h.
    let ps = c.args.fields.now in
    let i = c.loop-patch.patch-index in
    let rest = order_first ps i c.loop-patch.end c.args.limit c.patch-item.result c.loop-patch-test.true c.patch-item.is
    ((c.loop-patch.invariant c.args.limit).1 h) in
    let end = order_low (drop (i + 1) ps) (patch_end c.patch-item.result) c.args.limit rest.1 in
    omega (arith, end, c.in-None.ensures, ap length c.bytes.ensures, c.ranges.limit.fits)
