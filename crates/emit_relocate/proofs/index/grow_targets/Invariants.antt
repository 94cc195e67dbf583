use Rattle.emit_relocate.proofs.Common.{length, slots_at, vec_len, ℕ, ◌+◌, ◌-◌, ◌≡◌, ◌≤◌}
use Rattle.emit_relocate.proofs.index.grow_targets.Given as goal

abbrev pub invariant-loop-alloc : goal.invariant-loop-alloc
invariant-loop-alloc l =
    ((t : ℕ) → slots_at l.targets.items t ≡ slots_at l.initial.targets.items t)
    × (length l.initial.targets.items ≤ length l.targets.items)

abbrev pub decreases-loop-alloc : goal.decreases-loop-alloc
decreases-loop-alloc l = l.target + 1 - vec_len l.targets
