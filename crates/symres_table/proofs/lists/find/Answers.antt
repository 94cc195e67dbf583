use Rattle.symres_table.proofs.Common.{arith}
use Rattle.symres_table.proofs.ListSetAside.{none_long}
use Rattle.symres_table.proofs.lists.find.Goals as goal

pub unreachable-requires : goal.unreachable-requires
unreachable-requires c =
    none_long c.args.spare.now c.args.count c.requires.0 c.requires.1 (λ k d h.
    c.loop-at.invariant k d (omega (arith, h, c.loop-at-test.false))) c.requires.2
