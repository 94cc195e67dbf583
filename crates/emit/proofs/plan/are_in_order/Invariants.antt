use Rattle.emit.proofs.Common.{AreInOrder, drop, ℕ}
use Rattle.emit.proofs.plan.are_in_order.Given as goal

abbrev pub invariant-loop-patch : goal.invariant-loop-patch
invariant-loop-patch l =
    (n : ℕ) → (AreInOrder l.end n (drop l.patch-index l.fields) → AreInOrder 0 n l.fields)
    × (AreInOrder 0 n l.fields → AreInOrder l.end n (drop l.patch-index l.fields))
