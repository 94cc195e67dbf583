use Rattle.emit_fields.proofs.Common.{Patch, ◌≤◌}
use Rattle.std.specs.List.{AllAdjacentBelow}
use Rattle.emit_fields.proofs.patch.is_ascending.Given as goal

abbrev pub invariant-loop-k : goal.invariant-loop-k
invariant-loop-k l = AllAdjacentBelow (λ (x y : Patch). x.offset ≤ y.offset) l.patches l.k
